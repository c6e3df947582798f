-- What edits that are made at once write at the end of the text: headers, and inserts below them.
use Rattle.std.specs.Prelude.{◌≡◌, ◌⊎◌, ℕ, ◌<◌, All, Any, Bool, List, [], ◌∷◌, ◌++◌, None, Some, String, false}
use Rattle.std.specs.Prelude.{length, string_bytes, true}
use Rattle.std.specs.Borrow.{Bor}
use Rattle.std.specs.Global.{Global}
use Rattle.std.specs.HashMap.{HashMap}
use Rattle.std.specs.declared.hash.BuildHasherDefault.{BuildHasherDefault}
use Rattle.std.specs.declared.hash.FoldHasher.{FoldHasher}
use Rattle.keep_path.specs.Path.{Part, strip}
use Rattle.keep_edit_spec.specs.Edits as law
use Rattle.keep_edit_spec.specs.EndEdits.{EndEdit, IsInto}
use Rattle.keep_edit_spec.specs.HeadersBelow.{GoThrough}
use Rattle.keep_edit_spec.specs.Runs.{PassesBy}
use Rattle.keep_edit_plan.specs.Headers.{key_texts}
use Rattle.keep_edit_runs.specs.Runs.{outlined}
use Rattle.keep_edit_runs.specs.SeenPaths.{IsSeen}
use Rattle.keep_edit_runs.specs.declared.outline.Outline.{Outline}
use Rattle.keep_edit_runs.specs.declared.outline.Outline.TheVariants.{Element}
use Rattle.keep_edit_runs.specs.declared.tail.Block.{Block}
use Rattle.keep_edit_runs.specs.declared.tail.Tail.{Tail}

-- the keys of a block's header
abbrev pub keys_of : Block → List (List ℕ)
keys_of b = key_texts b.keys.now

-- all that the blocks write
abbrev pub bytes_of : List Block → List ℕ
bytes_of [] = []
bytes_of (b ∷ bs) = string_bytes b.text ++ bytes_of bs

-- all that edits at the end write
abbrev pub written : List EndEdit → List ℕ
written [] = []
written (t ∷ ts) = t.new ++ written ts

-- ---- the edits of the blocks

-- some inserts into a table, below a header that goes through it
pub record AreBelow (b : Block) (own : List EndEdit) (table : List Part) : Type 0 where
  pub some : 0 < length own
  pub into : All (λ t. IsInto table t.seen) own
  pub through : GoThrough (keys_of b) table

-- The header of a block, and the edits below it, write what the block does.
pub record IsBlock (b : Block) (h : EndEdit) (own : List EndEdit) : Type 0 where
  pub header : (h.edit ≡ law.append_table (keys_of b)) ⊎ (h.edit ≡ law.append_element (keys_of b))
  pub seen : h.seen ≡ h.edit
  pub none : b.table ≡ None → own ≡ []
  pub below : (table : List Part) → b.table ≡ Some table → AreBelow b own table
  pub text : string_bytes b.text ≡ h.new ++ written own

-- the edits of one block after another
abbrev pub AreBlocks : List Block → List EndEdit → Type 0
AreBlocks [] ts = ts ≡ []
AreBlocks (b ∷ bs) ts =
    (h : EndEdit) × ((own : List EndEdit) × ((rest : List EndEdit)
    × ((ts ≡ h ∷ own ++ rest) × (IsBlock b h own × AreBlocks bs rest))))

abbrev pub is_element : Outline → Bool
is_element (Element keys) = true
is_element _ = false

-- The edit appends an element, as one of those with these outlines does, with the same keys.
abbrev pub HasElementLike : List Outline → Outline → Type 0
HasElementLike outlines o = Any (λ t. (is_element t ≡ true) × (outlined t ≡ outlined o)) outlines

-- ---- one more

-- the same edits, with other places of elements
abbrev pub with_elements : Tail → HashMap ℕ ℕ (BuildHasherDefault FoldHasher) → Tail
with_elements tail elements = record tail { elements = elements }

-- What one edit more does is known, and its paths, as those of all others are.
pub record IsOutlineAdded (old : Tail) (o : Outline) (new : Tail) : Type 0 where
  pub outlines : new.outlines.items ≡ old.outlines.items ++ o ∷ []
  pub seen : All (IsSeen new.paths) new.outlines.items

-- a block with these keys, which writes this
pub record HeaderIsAdded (old : Tail) (keys : Bor (List (String Global))) (text : String Global) (new : Tail)
    : Type 0 where
  pub block : Block
  pub keys_are : block.keys ≡ keys
  pub text_is : block.text ≡ text
  pub none : block.table ≡ None
  pub blocks : new.blocks.items ≡ old.blocks.items ++ block ∷ []

-- ---- the block below whose header an insert into a table comes

-- It is the last one whose header goes through the table; all other headers pass by it or go through it.
pub record IsLastThrough (blocks : List Block) (table : List Part) (n : ℕ) : Type 0 where
  pub before : List Block
  pub block : Block
  pub after : List Block
  pub is : blocks ≡ before ++ block ∷ after
  pub number : length before ≡ n
  pub through : GoThrough (keys_of block) table
  pub earlier : All (λ b. PassesBy (keys_of b) table ⊎ GoThrough (keys_of b) table) before
  pub later : All (λ b. PassesBy (keys_of b) table) after

-- The inserts below the header with this number are into the table, and no others are into it or one below it.
abbrev pub LetsTable : List Block → ℕ → List Part → Type 0
LetsTable blocks n table =
    (before : List Block) (block : Block) (after : List Block) → blocks ≡ before ++ block ∷ after
    → length before ≡ n
    → ((t : List Part) → block.table ≡ Some t → t ≡ table)
    × All (λ b. (t : List Part) → b.table ≡ Some t → strip table t ≡ None) (before ++ after)

-- The inserts below the header with this number are into the table.
pub record IsBlockOf (blocks : List Block) (table : List Part) (n : ℕ) : Type 0 where
  pub before : List Block
  pub block : Block
  pub after : List Block
  pub is : blocks ≡ before ++ block ∷ after
  pub number : length before ≡ n
  pub into : block.table ≡ Some table

-- It is the one below whose header inserts into the table came, or the last one whose header goes through the table
-- where none did. All other headers pass by the table or go through it, and no inserts below them are into it or one
-- below it.
pub record IsBlockFor (blocks : List Block) (table : List Part) (n : ℕ) : Type 0 where
  pub before : List Block
  pub block : Block
  pub after : List Block
  pub is : blocks ≡ before ++ block ∷ after
  pub number : length before ≡ n
  pub own : (t : List Part) → block.table ≡ Some t → t ≡ table
  pub last : block.table ≡ None → GoThrough (keys_of block) table × All (λ b. PassesBy (keys_of b) table) after
  pub others : All (λ b. PassesBy (keys_of b) table ⊎ GoThrough (keys_of b) table) (before ++ after)
  pub apart : All (λ b. (t : List Part) → b.table ≡ Some t → strip table t ≡ None) (before ++ after)

-- An insert into the table writes this below the header with this number, behind what is there.
pub record IsPutBelow (old : List Block) (n : ℕ) (table : List Part) (text : List ℕ) (new : List Block) : Type 0 where
  pub before : List Block
  pub block : Block
  pub after : List Block
  pub was : old ≡ before ++ block ∷ after
  pub number : length before ≡ n
  pub now : Block
  pub is : new ≡ before ++ now ∷ after
  pub keys_are : now.keys ≡ block.keys
  pub table_is : now.table ≡ Some table
  pub text_is : string_bytes now.text ≡ string_bytes block.text ++ text
