-- Octets put into memory: an element is its head, and behind it the contents; a message has a head of its own in front of
-- the element. Assumes nothing.
use Rattle.std.proofs.Common.{◌≡◌, ℕ, ◌+◌, ◌≤◌, List, [], ◌∷◌, ◌++◌, length, take, drop, append_assoc, arith, length-append}
use Rattle.std.proofs.lemmas.List.{drop-drop, drop_at, take_at, take_all, length-take-le}
use Rattle.std.proofs.lemmas.Grind.{common_steps}
use borrow.Rule.Slice.PartMut.{put_mid}
use Rattle.components.specs.Component.{Said}
use Rattle.components.specs.Writing.{component_tag, component_contents, encoded}

-- the head of an element put in front, and the contents behind it, are the element
pub element_put : (s : Said) (memory head contents : List ℕ) (n k : ℕ) → head ≡ 0x1c ∷ (n + 3) ∷ 0x91 ∷ component_tag s ∷ n ∷ []
    → contents ≡ component_contents s → n ≡ length (component_contents s) → k ≡ n → put_mid 5 k (head ++ drop 5 memory) contents ≡ encoded s ++ drop (5 + n) memory
element_put s memory head contents n k is same long count = rw (is, same, drop-drop) (grind (arith, common_steps))

-- a head put in front of an element that lies behind its place makes the message of both
pub message_put : (s : Said) (head before memory rest : List ℕ) (start k n : ℕ) → start ≡ length head → start ≤ length before
    → n ≡ length (encoded s) → memory ≡ encoded s ++ rest → take (start + n) (take start head ++ drop start (put_mid start k before memory)) ≡ head ++ encoded s
message_put s head before memory rest start k n is within long put =
    let front : take start head ≡ head = take_all start head (omega arith) in
    let after = drop k (drop start before) in
    let behind : drop start (put_mid start k before memory) ≡ memory ++ after = drop_at (take start before) (memory ++ after) start (length-take-le start before within) in
    let count : length (head ++ encoded s) ≡ start + n = omega (arith, length-append head (encoded s)) in
    rw (front, behind, put, append_assoc, ← append_assoc head (encoded s) (rest ++ after)) (take_at (head ++ encoded s) (rest ++ after) (start + n) count)
