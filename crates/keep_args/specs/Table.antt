-- The table of subcommands.
use Rattle.std.specs.Prelude.{ℕ, List, [], ◌∷◌, codes, get_or}
use Rattle.std.specs.Borrow.{Bor}
use Rattle.keep_args.specs.declared.subcommand.Ask.{Ask}
use Rattle.keep_args.specs.declared.subcommand.Ask.TheVariants as ask
use Rattle.keep_args.specs.declared.subcommand.Op.{Op}
use Rattle.keep_args.specs.declared.subcommand.Op.TheVariants as op
use Rattle.keep_args.specs.declared.subcommand.Word.{Word}
use Rattle.keep_args.specs.declared.subcommand.Word.TheVariants as word

-- the words of an edit
abbrev pub edit_words : Op → List Word
edit_words op.Set = word.Path ∷ word.Value ∷ []
edit_words op.Insert = word.Path ∷ word.Value ∷ []
edit_words op.Rename = word.Path ∷ word.Key ∷ []
edit_words op.Remove = word.Path ∷ []
edit_words op.Table = word.Keys ∷ []
edit_words op.Element = word.Keys ∷ []

-- what the words of a subcommand are, by what it asks
abbrev pub words_of : Ask → List Word
words_of ask.Get = word.Path ∷ []
words_of ask.Text = word.Path ∷ []
words_of (ask.Edit op) = edit_words op
words_of ask.Apply = word.Script ∷ []
words_of ask.ApplyWide = word.WideScript ∷ []
words_of _ = []

-- a subcommand: its name, what it asks, and what its words are
pub record Row : Type 0 where
  pub name : List ℕ
  pub ask : Ask
  pub words : List Word

abbrev pub row : List ℕ → Ask → Row
row name asked = record { name = name; ask = asked; words = words_of asked }

-- all subcommands
abbrev pub table : List Row
table =
    row (codes "check") ask.Check
    ∷ row (codes "check-wide") ask.CheckWide
    ∷ row (codes "list") ask.List
    ∷ row (codes "get") ask.Get
    ∷ row (codes "text") ask.Text
    ∷ row (codes "set") (ask.Edit op.Set)
    ∷ row (codes "insert") (ask.Edit op.Insert)
    ∷ row (codes "rename") (ask.Edit op.Rename)
    ∷ row (codes "remove") (ask.Edit op.Remove)
    ∷ row (codes "table") (ask.Edit op.Table)
    ∷ row (codes "element") (ask.Edit op.Element)
    ∷ row (codes "apply") ask.Apply
    ∷ row (codes "apply-wide") ask.ApplyWide
    ∷ []

abbrev pub first_row : Row
first_row = get_or table 0 (row [] ask.Check)

-- a row as a value of the program
abbrev pub row_of : Bor (List ℕ) × Ask × Bor (List Word) × (Bor (List ℕ) × Bor (List ℕ)) → Row
row_of r = record { name = r.0.now; ask = r.1; words = r.2.now }
