-- What a turn reads comes after what stood at the front of the buffer.
use Rattle.std.proofs.Common.{◌≡◌, ◌+◌, ◌≤◌, ℕ, List, ◌++◌, length, take, rules, sym, subst}
use Rattle.std.proofs.lemmas.List.{length-take-le, take-append-le}
use Rattle.std.proofs.Math.Seq.{take-append-add}
use Rattle.std.proofs.KnownBytes.{Consumes-trans}
use Rattle.std.specs.Io.KnownBytes.{Consumes}
use borrow.Rule.Slice.PartMut.{put_mid, post_of}
use Rattle.listing.proofs.read_full.Goals as goal

-- the first a, then the first n of what was put after them
front : (a k n : ℕ) (xs ys : List ℕ) → a ≤ length xs → n ≤ length ys → take (a + n) (put_mid a k xs ys) ≡ take a xs ++ take n ys
front a k n xs ys h i =
    let e = take-append-add (take a xs) (ys ++ post_of a k xs) n in
    let l = length-take-le a xs h in
    let z : take (a + n) (put_mid a k xs ys) ≡ take a xs ++ take n (ys ++ post_of a k xs) = rw l at e in
    rw (take-append-le n ys (post_of a k xs) i) at z

pub loop-n-preserved : goal.loop-n-preserved
loop-n-preserved g c =
    let i = c.loop-n.invariant in
    let r = c.in_ok-more.ensures in
    record {
      within = search rules;
      kept = search rules;
      read =
          subst (Consumes _ _) (sym (front c.loop-n.n _ c.in_ok-more.more c.loop-n.buf c.read.new.buf i.within r.bound.0))
          (Consumes-trans _ _ _ _ _ i.read r.bytes.0);
    }
