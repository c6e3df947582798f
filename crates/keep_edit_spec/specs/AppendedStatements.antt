-- A header that an append writes: the document then has one statement more.
use Rattle.std.specs.Prelude.{◌≡◌, ℕ, List, None, IsUtf8}
use Rattle.std.specs.List.{AllByRecursion}
use Rattle.keep_types.specs.declared.leaf.Profile.{Profile}
use Rattle.keep_syntax.specs.Tree.{Document}
use Rattle.keep_meaning.specs.Marks.{header, element_header}
use Rattle.keep_meaning.specs.StatementsMore.{HasStatementMore}
use Rattle.keep_edit_spec.specs.Edits.{append_element, append_table, edited_document}
use Rattle.keep_edit_spec.specs.Refusals.{refusal}

-- An append_table adds a header with these keys, which are in UTF-8, as the last statement.
abbrev pub AppendTableAddsStatement : Type 0
AppendTableAddsStatement =
    (profile : Profile) (limit : ℕ) (s : Document) (keys : List (List ℕ)) → AllByRecursion IsUtf8 keys
    → refusal profile limit s (append_table keys) ≡ None
    → HasStatementMore s (header keys) (edited_document s (append_table keys))

-- So does an append_element, with a header of an element.
abbrev pub AppendElementAddsStatement : Type 0
AppendElementAddsStatement =
    (profile : Profile) (limit : ℕ) (s : Document) (keys : List (List ℕ)) → AllByRecursion IsUtf8 keys
    → refusal profile limit s (append_element keys) ≡ None
    → HasStatementMore s (element_header keys) (edited_document s (append_element keys))
