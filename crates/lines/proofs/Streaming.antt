-- What is written, or read, behind what was. Assumes nothing.
use Rattle.std.proofs.Common.{◌≡◌, ℕ, ◌+◌, ◌-◌, ◌≤◌, List, ◌++◌, Option, length, take, drop, sym, ap, subst, ◌∙◌, arith, length-take, le_refl, drop_at, length-take-le}
use Rattle.std.proofs.lemmas.Slice.{take-put_mid_below}
use borrow.Rule.Slice.PartMut.{put_mid, post_of}
use lib.Seq.{take-add, take-append-le, take-take}
use Rattle.std.specs.Io.KnownBytes.{Appends, Consumes}
use Rattle.std.proofs.KnownBytes.{Appends-trans, Consumes-trans}

-- octets more of those that are to be written
pub written_more : (a b c : Option (List ℕ)) (xs : List ℕ) (done n : ℕ) → n ≤ length (take (length xs - done) (drop done xs)) → Appends a b (take done xs) → Appends b c (take n (take (length xs - done) (drop done xs))) → Appends a c (take (done + n) xs)
written_more a b c xs done n few was more =
    let most = length-take (length xs - done) (drop done xs) in
    let joined = ap (λ l. take done xs ++ l) (take-take n (length xs - done) (drop done xs) (omega arith)) ∙ sym (take-add done n xs) in
    subst (Appends _ _) joined (Appends-trans _ _ _ _ _ was more)

-- octets more into memory behind those that fill it so far
pub read_more : (a b c : Option (List ℕ)) (xs ys : List ℕ) (done n : ℕ) → done ≤ length xs → n ≤ length ys → Consumes a b (take done xs) → Consumes b c (take n ys) → Consumes a c (take (done + n) (put_mid done (length xs - done) xs ys))
read_more a b c xs ys done n within fits was more =
    let room = length xs - done in
    let all = put_mid done room xs ys in
    let behind = post_of done room xs in
    let front : take done all ≡ take done xs = take-put_mid_below _ _ _ _ _ (le_refl _) within in
    let part : take n (drop done all) ≡ take n ys = ap (take n) (drop_at (take done xs) (ys ++ behind) done (length-take-le done xs within)) ∙ take-append-le n ys behind fits in
    let joined : take done xs ++ take n ys ≡ take (done + n) all = ap (λ l. l ++ take n ys) (sym front) ∙ ap (λ l. take done all ++ l) (sym part) ∙ sym (take-add done n all) in
    subst (Consumes _ _) joined (Consumes-trans _ _ _ _ _ was more)
