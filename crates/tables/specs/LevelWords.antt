-- What a level offers. Assumes nothing.
use Rattle.std.specs.Prelude.{◌≡◌, ℕ, Bool}
use Rattle.tables.specs.declared.level.Level.{Level}

-- conferences of up to so many parties, so many at a time; whether they are subscribed, and may be begun on a call in progress
pub record Offers (parties at_once : ℕ) (is_subscribed from_active : Bool) (level : Level) : Type 0 where
  pub size : level.size ≡ parties
  pub conferences : level.conferences ≡ at_once
  pub subscribed : level.subscribed ≡ is_subscribed
  pub active : level.active ≡ from_active
