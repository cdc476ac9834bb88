-- What an answer adds to a text, and what is kept where a call fails. Assumes nothing.
use Rattle.std.specs.Prelude.{◌≡◌, ℕ, List, ◌++◌, Result, OnOk, is_ok, if◌then◌else◌}

-- The text that answers a line comes after the texts before it. Where the call fails, nothing is known of what was written.
abbrev pub Appends : {X E : Type 0} → Result X E → List ℕ → List ℕ → List ℕ → Type 0
Appends result old new text = OnOk result (new ≡ old ++ text)

-- What is kept after a call: what is to be kept from it on, and where the call fails, what was kept before.
abbrev pub Keeps : {X E S : Type 0} → Result X E → S → S → S → Type 0
Keeps result old new kept = new ≡ (if is_ok result then kept else old)
