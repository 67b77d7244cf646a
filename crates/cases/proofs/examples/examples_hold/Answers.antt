use Rattle.std.proofs.Common.{◌≡◌, ℕ, Bool, true, refl}
use Rattle.ber.specs.Structure.{first_bad, bad_value, values_after, values}
use Rattle.components.specs.Reading.{reading_component, reading}
use Rattle.tables.specs.declared.level.Level.{Level}
use Rattle.tables.specs.Levels.{Lawful}
use Rattle.reel.specs.declared.open.Open.{Open}
use Rattle.cases.specs.Examples.{table, elements, Agree}
use Rattle.cases.proofs.examples.examples_hold.Goals as goal

-- each row agrees
Rows : Level → Open → Type 0
Rows level reel = Agree (table level reel)

-- a level of these numbers
made : (size conferences : ℕ) (subscribed active : Bool) → Lawful size conferences → Level
made size conferences subscribed active lawful =
    record { size = size; conferences = conferences; subscribed = subscribed; active = active; lawful = lawful }

-- at the numbers of level Round each row computes, and so at whatever equals them
module _ (reel : Open) (start : reel.place ≡ 0) where
  at_round : (lawful : Lawful 10 4) → Rows (made 10 4 true true lawful) reel
  unfolding Rows made first_bad bad_value values_after values reading_component reading
  at_round lawful =
      (refl, (refl, (refl, (refl, (refl, (rw start refl, (rw start refl, tt)))))))

  at_such : (n m : ℕ) (s a : Bool) → n ≡ 10 → m ≡ 4 → s ≡ true → a ≡ true →
      (lawful : Lawful n m) → Rows (made n m s a lawful) reel
  at_such n m s a size conferences subscribed active = rw (size, conferences, subscribed, active) at_round

-- so do those of levels and elements
read : Agree elements
unfolding first_bad bad_value values_after values reading_component reading
read = (refl, (refl, (refl, (refl, tt))))

pub returns : goal.returns
unfolding Rows made
returns c = (
  read,
  λ round reel offers new. at_such reel new.place _ _ _ _ offers.size offers.conferences offers.subscribed offers.active round.lawful,
)
