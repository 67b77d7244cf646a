-- What writing does with a component that was read. Assumes nothing.
use Rattle.std.proofs.Common.{◌≡◌, ℕ, List, length, is_ok, Ok, Err, Result, refl, ap, arith}
use Rattle.components.specs.declared.write.Refusal.{Refusal}
use Rattle.components.specs.declared.write.Refusal.TheVariants.{Unreadable, ShortMemory}
use Rattle.components.specs.Component.{Said}
use Rattle.components.specs.Reading.{reading}
use Rattle.components.specs.Writing.{encoded, placed, Readable, Written}
use Rattle.cases.specs.Copying.{Copies}

-- it is written where there is room, with the octets that it was read from
module _ (xs before after : List ℕ) (s : Said) (reads : reading xs ≡ Ok s) (octets : encoded s ≡ xs) (place : placed s ≡ s) where
  -- its octets read back as it
  back : Readable s
  back = rw (octets, place) reads

  -- so it is refused only for want of room
  pub copied : (r : Result ℕ Refusal) → Written s before after r → Copies xs before after (is_ok r)
  copied (Ok n) told = record {
    done = λ _. cc (told.1, told.2, octets);
    refused = λ e. cc;
    always = λ _ _ _. refl;
  }
  copied (Err Unreadable) told = absurd (told.0 back)
  copied (Err ShortMemory) told = record {
    done = λ e. cc;
    refused = λ _. told.2;
    always = λ _ _ room. absurd (omega (arith, told.1, ap length octets));
  }
