-- A list that is told part by part: what is found so far, and what is to come.
use Rattle.std.proofs.Common.{◌≡◌, List, [], ◌∷◌, ◌++◌, Some, None, Option, sym, refl, ap, ◌∙◌}
use Rattle.std.proofs.lemmas.List.{append-nil, append_assoc}
use Rattle.console.specs.Lists.{with_first}

-- What is found, followed by what is to come.
abbrev pub following : {X : Type 0} → List X → Option (List X) → Option (List X)
following found None = None
following found (Some rest) = Some (found ++ rest)

follows_one : {X : Type 0} (found : List X) (x : X) (rest : Option (List X)) → following (found ++ x ∷ []) rest ≡ following found (with_first (Some x) rest)
follows_one found x None = refl
follows_one found x (Some xs) = ap Some (append_assoc found (x ∷ []) xs)

-- No list without its rest.
pub no_rest : {X : Type 0} (first : Option X) → with_first first None ≡ None
no_rest None = refl
no_rest (Some x) = refl

-- What is found, followed by what is left, is all.
module _ {X : Type 0} (found : List X) (left all : Option (List X)) (inv : following found left ≡ all) where
  comes_to : (first : Option X) (rest : Option (List X)) → left ≡ with_first first rest → following found (with_first first rest) ≡ all
  comes_to first rest p = ap (following found) (sym p) ∙ inv

  pub one_more : (x : X) (first : Option X) (rest : Option (List X)) → left ≡ with_first first rest → Some x ≡ first → following (found ++ x ∷ []) rest ≡ all
  one_more x first rest p e = follows_one found x rest ∙ (ap (λ o. following found (with_first o rest)) e ∙ comes_to first rest p)

  pub not_one : (first : Option X) (rest : Option (List X)) → left ≡ with_first first rest → None ≡ first → None ≡ all
  not_one first rest p e = ap (λ o. following found (with_first o rest)) e ∙ comes_to first rest p

  pub no_more : left ≡ Some [] → Some found ≡ all
  no_more p = sym (ap Some (append-nil found)) ∙ (ap (following found) (sym p) ∙ inv)
