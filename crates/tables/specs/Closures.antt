-- What a closure that is passed to a function answers. Assumes nothing.
use Rattle.std.specs.Prelude.{◌≡◌, ℕ, ◌<◌, Bool}

-- whether an id is in use is what a test says
abbrev pub Tells : (ℕ → Bool → Type 0) → (ℕ → Bool) → Type 0
Tells says is_used = (i : ℕ) (b : Bool) → i < 256 → says i b → b ≡ is_used i

-- a rule makes of each item what a function says
abbrev pub Applies : {A : Type 0} → (A → A → Type 0) → (A → A) → Type 0
Applies {A} makes f = (x y : A) → makes x y → y ≡ f x
