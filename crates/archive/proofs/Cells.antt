-- The bytes of one cell.
use Rattle.std.proofs.Common.{◌≡◌, ℕ, ◌+◌, ◌*◌, List, length, Some, sym, ap, ◌∙◌, add-one, None}
use Rattle.std.specs.List.{slice_get}
use Rattle.machine.specs.declared.types.Record.{Record}
use Rattle.machine.specs.World.{World, at}
use Rattle.archive.specs.Layout.{after, told_free, link_bytes, record_bytes, free_bytes, cell_bytes, part_of, archive_block, archive_of, blocks_for}
use Rattle.archive.specs.Runs.{run}
use Rattle.octets.specs.Block.{block_of}

pub cell_free : {C : Type 0} (form : C → List ℕ) (w : World C) (k : ℕ) → at w k ≡ None → free_bytes (told_free (length w.cells) (after w.free k)) ≡ cell_bytes form w k
unfolding cell_bytes
cell_free form w k e = rw e

pub cell_used : {C : Type 0} (form : C → List ℕ) (w : World C) (k : ℕ) (r : Record) (x : C) → at w k ≡ Some r → slice_get w.contents k ≡ Some x → record_bytes r.serial (form x) (link_bytes w.cells r.links) ≡ cell_bytes form w k
unfolding cell_bytes
cell_used form w k r x e f = rw (e, f)

-- a block of cells
pub cells_block : {C : Type 0} (code : ℕ) (form : C → List ℕ) (w : World C) (b n : ℕ) (y body : List ℕ) → y ≡ block_of (b + 1) n body → n ≡ part_of (length w.cells) b → body ≡ run (λ j. cell_bytes form w (18 * b + j)) n → y ≡ archive_block code form w (b + 1)
cells_block code form w b n y body e p q =
    e ∙ ap (block_of (b + 1) n) q ∙ ap (λ m. block_of (b + 1) m (run (λ j. cell_bytes form w (18 * b + j)) m)) p
    ∙ ap (λ m. block_of m (part_of (length w.cells) b) (run (λ j. cell_bytes form w (18 * b + j)) (part_of (length w.cells) b))) (add-one b)
    ∙ ap (archive_block code form w) (sym (add-one b))

pub all_blocks : {C : Type 0} (code : ℕ) (form : C → List ℕ) (w : World C) (n : ℕ) → n ≡ blocks_for (length w.cells) → run (archive_block code form w) n ≡ archive_of code form w
unfolding archive_of
all_blocks code form w n e = ap (run (archive_block code form w)) e
