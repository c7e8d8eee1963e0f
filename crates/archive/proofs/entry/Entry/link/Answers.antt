use Rattle.std.proofs.Common.{◌≡◌, ℕ, ◌+◌, ◌*◌, ◌<◌, List, take, drop, ap, ◌∙◌, arith}
use Rattle.octets.specs.Numbers.{un16}
use Rattle.archive.specs.Bytes.{spot, unname, link_in}
use Rattle.archive.proofs.Glue.{two_in, un16_front}
use Rattle.archive.proofs.entry.Entry.link.Goals as goal

-- a number of two bytes, read in the eight bytes of the links where link i stands
read_at : {a : ℕ} (s i : ℕ) (bs l r : List ℕ) → l ≡ take 8 (drop s bs) → i < 4 → r ≡ take 2 (drop a l) → a ≡ 2 * i → un16 r ≡ un16 (drop (s + 2 * i) bs)
read_at {a} s i bs l r e h f q = ap un16 f ∙ un16_front (drop a l) ∙ two_in s 8 a (s + 2 * i) bs l e (omega arith) (omega arith)

pub returns : goal.returns
unfolding link_in
returns c =
    let x = c.args.self.now in
    c.unnamed.ensures
    ∙ ap unname (c.from_le_bytes.ensures ∙ read_at (spot x.k + 20) c.args.i x.pages.bytes.now c.links.result.now c.bytes_at.result c.links.ensures.is c.requires c.bytes_at.ensures (omega (arith, c.requires)))
