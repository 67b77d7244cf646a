-- Every answer to a request fits a message, and the values in a message's component are well structured.
use Rattle.std.proofs.Common.{ℕ, ◌≤◌, ◌++◌, length, ℤ, Ok, Err, refl, arith, lit<}
use Rattle.std.specs.Option.{option_map}
use Rattle.ber.specs.Structure.{bad_value, first_bad}
use Rattle.ber.specs.Integer.{integer_octets}
use Rattle.ber.specs.Value.{tagged}
use Rattle.components.specs.Writing.{encoded, One, Fit, Sound}
use Rattle.components.proofs.Returning.{integer_alone, integer_long, integer_well}
use Rattle.facility.specs.Requests.{number_octets}
use Rattle.tables.specs.Table.{Table}
use Rattle.controller.specs.declared.carrier.Carrier.{Carrier}
use Rattle.controller.specs.declared.deed.Deed.{Deed}
use Rattle.controller.specs.declared.verdict.Wrong.TheVariants.{Failed, Rejected}
use Rattle.controller.specs.Judging.{Verdict}
use Rattle.controller.specs.Replies.{head, ids_given, reply}

-- a number is one value
number_one : (n : ℕ) → One 6 (number_octets n)
unfolding bad_value
number_one n = record { well = refl; all = refl }

-- so is a number in a SEQUENCE
sequence_one : (n : ℕ) → One 6 (tagged 0x30 (number_octets n))
unfolding bad_value first_bad
sequence_one n = record { well = refl; all = refl }

-- so are two
numbers_one : (m n : ℕ) → One 6 (tagged 0x30 (number_octets m ++ number_octets n))
unfolding bad_value first_bad
numbers_one m n = record { well = refl; all = refl }

-- so is what a result has
ids_one : (deed : Deed) → Fit 6 (option_map (λ a. a.1) (ids_given deed))
ids_one deed = grind (arith, number_one, sequence_one, numbers_one)

-- the parameter of a reply is one value
pub reply_sound : (id : ℤ) (v : Verdict) → Sound (reply id v)
reply_sound id (Ok deed) = ids_one deed
reply_sound id (Err (Failed why)) = tt
reply_sound id (Err (Rejected why)) = tt

-- a reply has at most 23 octets: as many as a FACILITY with a ConferenceId, a PartyId and a long invoke id
pub reply_few : (carrier : Carrier) (id : ℤ) (t : Table) (v : Verdict) → length (head carrier t v ++ encoded (reply id v)) ≤ 23
reply_few carrier id t (Ok deed) = grind (arith, integer_long)
reply_few carrier id t (Err (Failed why)) = grind (arith, integer_long)
reply_few carrier id t (Err (Rejected why)) = grind (arith, integer_long)

-- the INTEGER that an invoke has as its argument is one value
pub integer_one : (z : ℤ) → One 7 (integer_octets z)
integer_one z = record { well = integer_well 7 0 z (lit< tt); all = (integer_alone z).all }
