-- Once the header of a new table came at the end of a text, an insert of any key into that table adds its line there.
--
-- No array of tables is on the way of the header's keys, so the header's path is that of its keys, and its line begins
-- the table's body (`begun`). The table was no node, so nothing is said at its path or under it, but by the header
-- (`unsaid`). That says no more of the path than that it is a table (`says`). No prefix of the path is an array or an
-- inline table (`flat`). The rest is as for each header that comes at the end (HeaderOpens).
--
-- Theorem: `table_opened`.
use Rattle.std.proofs.Common.{◌≡◌, ℕ, true, false, List, [], ◌∷◌, ◌++◌, map, refl, ap, subst, ◌∙◌}
use Rattle.std.specs.List.{list_any}
use Rattle.keep_types.specs.declared.leaf.Profile.{Profile}
use Rattle.keep_syntax.specs.Tree.{Content, Document, header}
use Rattle.keep_path.specs.Path.{Part, key, same_path}
use Rattle.keep_meaning.specs.Marks.{Mention, Reading, define, header_path, header_prefixes, start}
use Rattle.keep_meaning.specs.Meaning.{keys_of, line_of, lines, mentions_in, reading_after_lines}
use Rattle.keep_meaning.specs.Nodes.{is_at, is_root}
use Rattle.keep_edit_spec.specs.Edits.{append_table, edited_document, key_with}
use Rattle.keep_edit_spec.specs.FilledTables.{AppendsNewTable, IsOpenTable}
use Rattle.keep_edit_spec.specs.Laws.{IsEditable}
use Rattle.keep_edit_spec.specs.Lines.{begins, newline_of, plain_line}
use Rattle.keep_edit_spec.specs.Look.{is_bracket_at}
use Rattle.keep_edit_spec.specs.Refusals.{end_reading, tables_in}
use Rattle.keep_edit_spec.specs.TextChanges.{TextChange}
use Rattle.keep_edit_spec.proofs.Common.FromMarksLines.{path_ends}
use Rattle.keep_edit_spec.proofs.Common.InsertLaw.{fresh_disjoint}
use Rattle.keep_edit_spec.proofs.Common.LineLaws.{EndsInKey}
use Rattle.keep_edit_spec.proofs.Common.NewLines.{key_means}
use Rattle.keep_edit_spec.proofs.Common.Runs.{AllOf, IsDisjoint, all_join, same_path-refl}
use Rattle.keep_edit_spec.proofs.Insert.NewPath.{either_false, keys_of_map}
use Rattle.keep_edit_spec.proofs.Lists.HeaderComes.{HeaderComes, after_header, end_tables, table_comes}
use Rattle.keep_edit_spec.proofs.Lists.HeaderOpens.{AreFirst, IsTableAt, OpensBody, are_first, header_opens, path_is}
use Rattle.keep_edit_spec.proofs.Lists.HeaderOpens.{way_says}
use Rattle.keep_edit_spec.proofs.Rename.KeyTexts.{key_texts}

module _ (profile : Profile) (limit : ℕ) (s : Document) (k : List ℕ) (ks : List (List ℕ)) (c : TextChange)
    (fine : IsEditable profile limit s) (h : AppendsNewTable profile limit s (k ∷ ks) c) where
  abbrev keys : List (List ℕ)
  keys = k ∷ ks

  abbrev content : Content
  content = header [] (key_with keys) []

  abbrev come : HeaderComes s keys c content
  come = table_comes profile limit s keys c fine h.appends

  abbrev ms : List Mention
  ms = mentions_in s

  abbrev a : List Part
  a = map key keys

  abbrev at_end : Reading
  at_end = reading_after_lines start (map line_of s.ended)

  own_path : header_path (tables_in ms) [] keys ≡ a
  own_path = path_is (tables_in ms) keys (λ x xs l rest e. h.no_elements x xs (l ∷ rest) e)

  begun : begins a at_end (plain_line content) ≡ true
  begun =
      let means : keys_of (key_with keys) ≡ keys =
      key_means profile k ks (key_texts profile keys h.appends.utf8) in
      ap (λ (x : List (List ℕ)). same_path (header_path at_end.tables [] x) a) means
      ∙ ap (λ (t : List (List Part)). same_path (header_path t [] keys) a) (end_tables s keys c content come)
      ∙ ap (λ (q : List Part). same_path q a) own_path ∙ same_path-refl a

  unsaid : AllOf (IsDisjoint a) ms
  unsaid =
      fresh_disjoint a (lines s) (subst EndsInKey own_path (path_ends (tables_in ms) [] k ks))
      (either_false (is_root a) (list_any (is_at a) ms) h.new)

  says : AllOf (IsTableAt a) come.own
  says =
      let named : List (List ℕ) = keys_of (key_with keys) in
      subst (AllOf (IsTableAt a)) (come.stated (end_reading ms) refl)
      (all_join (IsTableAt a) (header_prefixes (tables_in ms) [] named)
      (record { path = header_path (tables_in ms) [] named; kind = define } ∷ []) (way_says a (tables_in ms) named)
      ((λ e. (refl, refl)), tt))

  flat : (q rest : List Part) → a ≡ q ++ rest → is_bracket_at ms q ≡ false
  flat q rest e =
      let f : AreFirst keys q = are_first keys q rest e in
      ap (is_bracket_at ms) f.is ∙ h.no_brackets f.first f.rest f.all

  opens : OpensBody profile s keys a content come.own
  opens = record {
    valid = fine.valid;
    closed = h.appends.closed;
    utf8 = h.appends.utf8;
    below = refl;
    names = keys_of_map keys;
    begun = begun;
    unsaid = unsaid;
    says = says;
    flat = flat;
  }

pub table_opened : (profile : Profile) (limit : ℕ) (s : Document) (keys : List (List ℕ)) (c : TextChange)
    → IsEditable profile limit s → AppendsNewTable profile limit s keys c
    → IsOpenTable profile limit (newline_of s).text (edited_document s (append_table keys)) keys []
table_opened profile limit s [] c fine h = let no = h.appends.allowed in absurd cc
table_opened profile limit s (k ∷ ks) c fine h =
    let keys : List (List ℕ) = k ∷ ks in
    let one : Content = header [] (key_with keys) [] in
    let come : HeaderComes s keys c one = table_comes profile limit s keys c fine h.appends in
    after_header (λ (t : Document). IsOpenTable profile limit (newline_of s).text t keys []) s one keys c come
    (header_opens profile limit s keys c one (map key keys) come (opens profile limit s k ks c fine h))
