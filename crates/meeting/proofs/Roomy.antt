-- That a reel keeps room for its trailer. Assumes nothing.
use Rattle.std.proofs.Common.{◌≡◌, ℕ, ◌+◌, ◌≤◌, List, [], ◌∷◌, ◌++◌, length, None, Ok, Err, Result, arith}
use Rattle.std.proofs.ByRecursion.{all-has, has_push}
use Rattle.std.proofs.lemmas.Bool.Decides.{nat_tests}
use Rattle.reel.specs.declared.recorded.Recorded.{Recorded}
use Rattle.reel.specs.declared.recorded.Unlawful.{Unlawful}
use Rattle.reel.specs.declared.open.Open.{Open}
use Rattle.reel.specs.Calls.{call_in, call_octets, InRange}
use Rattle.reel.specs.Reels.{refused_at, Appends, Holds}

-- octets that are not refused have room
room_where_taken : (place n memory : ℕ) (r : Result Recorded Unlawful) → refused_at place n memory r ≡ None → place + 1 + n + 12 ≤ memory
room_where_taken place n memory (Ok c) is = grind (arith, nat_tests)
room_where_taken place n memory (Err unlawful) is = grind arith

-- a call that a reel holds was in range, so that appending it left room
pub room_behind : (calls : List Recorded) (call : Recorded) (reel next : Open) (before after : List ℕ) → (InRange call → Appends reel (call_octets call) before after (Ok next))
    → Holds (calls ++ (call ∷ [])) next after → next.place + 12 ≤ length before
room_behind calls call reel next before after appends holds =
    let told = appends (all-has InRange (calls ++ (call ∷ [])) call holds.in_range (has_push calls call)) in
    let octets = call_octets call in
    omega (arith, told.1, room_where_taken reel.place (length octets) (length before) (call_in octets) told.0)
