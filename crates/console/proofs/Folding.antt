-- A chain that takes a number along digit by digit, and breaks off where none comes of it.
use Rattle.std.proofs.Common.{◌≡◌, ℕ, ◌≤◌, List, [], ◌∷◌, length, Iter, Some, None, Option, Bor, sym, ap, subst, ◌∙◌, arith}
use Rattle.std.specs.Fn.{Mut, Called}
use Rattle.std.specs.Option.{MatchOption}
use Rattle.std.specs.Iterator.{Yields, TryFoldsItems, TryFoldTurn}
use Rattle.std.specs.List.{FoldsTo}
use Rattle.std.specs.declared.ops.ControlFlow.{ControlFlow}
use Rattle.std.specs.declared.ops.ControlFlow.TheVariants.{Continue, Break}
use Rattle.console.specs.Numerals.{value_after, up_to, longer}
use Rattle.console.proofs.Digits.{onward, one, ended, within}

-- What a slice's iterator gives: the first of what it shows, or none at its end.
abbrev firsts : Iter ℕ → Option (Bor ℕ) → Iter ℕ → Type 0
firsts s r t = MatchOption r ((length s.rest.now ≡ 0) × (t ≡ s)) (λ b. s.rest.now ≡ b.now ∷ t.rest.now)

-- What `?` makes of the number so far, where it goes on and where it breaks off.
abbrev takes : {E : Type 0} → Option ℕ → ControlFlow E ℕ → Type 0
takes v (Continue n) = v ≡ Some n
takes v (Break e) = v ≡ None

module _ {F : Type 0} (E : Type 0) (g : Mut F (ℕ × (Bor ℕ × Unit {0})) (Option ℕ)) (f : F) (largest : ℕ)
    (call : (n : ℕ) (b : Bor ℕ) (v : Option ℕ) (h : F) → Called g f (n, (b, tt)) v h → (h ≡ f) × (v ≡ longer largest n b.now)) where
  going : (xs : List (Bor ℕ)) (s t : Iter ℕ) (n : ℕ) (q : F × ℕ) → n ≤ largest → Yields firsts s xs t → FoldsTo (TryFoldTurn {E = E} g takes) (f, n) xs q
      → (q.0 ≡ f) × (q.1 ≤ largest) × (up_to largest (value_after n s.rest.now) ≡ up_to largest (value_after q.1 t.rest.now))
  going [] s t n q le y c = (sym (ap (λ (p : F × ℕ). p.0) c), subst (λ (p : F × ℕ). p.1 ≤ largest) c le, ap (λ (w : Iter ℕ). up_to largest (value_after n w.rest.now)) y ∙ ap (λ (p : F × ℕ). up_to largest (value_after p.1 t.rest.now)) c)
  going (x ∷ xs) s t n q le y c =
      let m = call n x c.1.0 c.0.0 c.1.1 in
      let longer_by : Some c.0.1 ≡ longer largest n x.now = sym c.1.2 ∙ m.1 in
      let more = going xs y.0 t c.0.1 q (within largest n x.now c.0.1 longer_by) y.2 (subst (λ (w : F × ℕ). FoldsTo (TryFoldTurn {E = E} g takes) w xs q) {x = c.0} {y = (f, c.0.1)} (λ i. (m.0 i, c.0.1)) c.2) in
      (more.0, more.1, ap (λ bs. up_to largest (value_after n bs)) y.1 ∙ one largest n x.now y.0.rest.now ∙ ap (onward largest y.0.rest.now) (sym longer_by) ∙ more.2)

  last : (o : Option (Bor ℕ)) (r : Option ℕ) (j : F) (a : ℕ) (t u : Iter ℕ) → j ≡ f → a ≤ largest → firsts t o u
      → MatchOption o (r ≡ Some a) (λ x. (v : Option ℕ) × (h : F) × (e : E) × Called g j (a, (x, tt)) v h × (v ≡ None) × (r ≡ None))
      → r ≡ up_to largest (value_after a t.rest.now)
  last None r j a t u same le s h = h ∙ ended largest a t.rest.now le s.0
  last (Some x) r j a t u same le s h =
      let m = call a x h.0 h.1 (subst (λ w. Called g w (a, (x, tt)) h.0 h.1) same h.3) in
      h.5 ∙ ap (onward largest u.rest.now) (sym h.4 ∙ m.1) ∙ sym (one largest a x.now u.rest.now) ∙ ap (λ bs. up_to largest (value_after a bs)) (sym s)

pub folded : {E F : Type 0} (g : Mut F (ℕ × (Bor ℕ × Unit {0})) (Option ℕ)) {f : F} (largest : ℕ) (s u : Iter ℕ) (r : Option ℕ)
    → TryFoldsItems firsts g takes (λ (e : E) v. v ≡ None) s f 0 r u
    → ((n : ℕ) (b : Bor ℕ) (v : Option ℕ) (h : F) → Called g f (n, (b, tt)) v h → (h ≡ f) × (v ≡ longer largest n b.now))
    → r ≡ up_to largest (value_after 0 s.rest.now)
folded {E} g {f} largest s u r d call =
    let k = going E g f largest call d.0 s d.4.0 0 (d.2, d.3) (omega arith) d.4.1 d.5 in
    last E g f largest call d.1 r d.2 d.3 d.4.0 u k.0 k.1 d.4.2 d.6 ∙ sym k.2
