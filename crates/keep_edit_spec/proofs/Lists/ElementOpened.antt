-- Once the header of a new element of an array of tables came at the end of a text, an insert of any key into that
-- element adds its line there.
--
-- No array of tables is on the way of the header's keys, so the array's path is that of the keys, and the header's line
-- begins the body of the element, which has the number of elements so far (`new_path`, `begun`). Of the next element
-- nothing is said before the header (`unsaid`; NextElement), and that says no more of its path than that it is begun
-- (`says`). No prefix of the array's path is an array or an inline table, nor is the element, of which nothing is said
-- (`flat`). The rest is as for each header that comes at the end (HeaderOpens).
--
-- Theorem: `element_opened`.
use Rattle.std.proofs.Common.{◌≡◌, ℕ, true, false, List, [], ◌∷◌, ◌++◌, map, refl, sym, ap, subst, ◌∙◌}
use Rattle.std.specs.List.{filter_map}
use Rattle.std.proofs.lemmas.List.{append-nil}
use Rattle.std.proofs.lemmas.List.Elements.{filter_map-append}
use Rattle.keep_types.specs.declared.leaf.Profile.{Profile}
use Rattle.keep_syntax.specs.Tree.{Content, Document, element}
use Rattle.keep_path.specs.Path.{Part, index, key, same_path, strip}
use Rattle.keep_meaning.specs.Marks as marks_of
use Rattle.keep_meaning.specs.Marks.{Mention, MentionKind, Reading, element_header, elements_of, fact_of, header_path}
use Rattle.keep_meaning.specs.Marks.{header_prefixes, start, statement_mentions}
use Rattle.keep_meaning.specs.Meaning.{keys_of, line_of, mentions_in, reading_after_lines}
use Rattle.keep_meaning.specs.Nodes.{first_of, kinds_at}
use Rattle.keep_edit_spec.specs.Edits.{append_element, edited_document, key_with}
use Rattle.keep_edit_spec.specs.FilledTables.{AppendsNewElement, IsOpen, element_at}
use Rattle.keep_edit_spec.specs.Laws.{IsEditable}
use Rattle.keep_edit_spec.specs.Lines.{begins, newline_of, plain_line}
use Rattle.keep_edit_spec.specs.Look.{is_bracket_at, key_text, keys_in}
use Rattle.keep_edit_spec.specs.Refusals.{end_reading, tables_in}
use Rattle.keep_edit_spec.specs.TextChanges.{TextChange}
use Rattle.keep_edit_spec.proofs.Common.EntryDepths.{bracket_of}
use Rattle.keep_edit_spec.proofs.Common.FromMarks.{ends_disjoint}
use Rattle.keep_edit_spec.proofs.Common.FromMarksLines.{path_ends}
use Rattle.keep_edit_spec.proofs.Common.NewLines.{key_means}
use Rattle.keep_edit_spec.proofs.Common.Runs.{AllOf, IsDisjoint, Rules, all_join, kinds_at-disjoint, same_path-refl}
use Rattle.keep_edit_spec.proofs.Common.Runs.{strip-append}
use Rattle.keep_edit_spec.proofs.Insert.NewPath.{keys_of_map}
use Rattle.keep_edit_spec.proofs.Lists.HeaderComes.{HeaderComes, after_header, element_comes, end_tables}
use Rattle.keep_edit_spec.proofs.Lists.HeaderOpens.{AreFirst, IsTableAt, OpensBody, are_first, before_last}
use Rattle.keep_edit_spec.proofs.Lists.HeaderOpens.{header_opens, path_is, way_says}
use Rattle.keep_edit_spec.proofs.Lists.NextElement.{next_unsaid}
use Rattle.keep_edit_spec.proofs.Rename.KeyTexts.{key_texts}

module _ (profile : Profile) (limit : ℕ) (s : Document) (k : List ℕ) (ks : List (List ℕ)) (number : ℕ)
    (c : TextChange) (fine : IsEditable profile limit s) (h : AppendsNewElement profile limit s (k ∷ ks) number c)
  where
    abbrev keys : List (List ℕ)
    keys = k ∷ ks

    abbrev content : Content
    content = element [] (key_with keys) []

    abbrev come : HeaderComes s keys c content
    come = element_comes profile limit s keys c fine h.appends

    abbrev ms : List Mention
    ms = mentions_in s

    abbrev tables : List (List Part)
    tables = tables_in ms

    abbrev a : List Part
    a = element_at keys number

    abbrev at_end : Reading
    at_end = reading_after_lines start (map line_of s.ended)

    -- the path of the next element of the array
    abbrev next_of : List Part → List (List Part) → List Part
    next_of array known = array ++ index (elements_of array known) ∷ []

    new_path : next_of (header_path tables [] keys) tables ≡ a
    new_path =
        ap (λ (q : List Part). next_of q tables) (path_is tables keys h.no_elements)
        ∙ ap (λ (n : ℕ). map key keys ++ index n ∷ []) h.counted

    means : keys_of (key_with keys) ≡ keys
    means = key_means profile k ks (key_texts profile keys h.appends.utf8)

    begun : begins a at_end (plain_line content) ≡ true
    begun =
        ap (λ (x : List (List ℕ)). same_path (next_of (header_path at_end.tables [] x) at_end.tables) a) means
        ∙ ap (λ (t : List (List Part)). same_path (next_of (header_path t [] keys) t) a)
        (end_tables s keys c content come)
        ∙ ap (λ (q : List Part). same_path q a) new_path ∙ same_path-refl a

    -- ---- what is said of it

    own_is : statement_mentions (end_reading ms) (element_header keys) ≡ come.own
    own_is =
        ap (λ (x : List (List ℕ)). statement_mentions (end_reading ms) (element_header x)) (sym means)
        ∙ come.stated (end_reading ms) refl

    unsaid : AllOf (IsDisjoint a) ms
    unsaid =
        subst (λ (q : List Part). AllOf (IsDisjoint q) ms) new_path
        (next_unsaid s k ks (subst (λ (own : List Mention). Rules (ms ++ own)) (sym own_is) come.rules))

    says : AllOf (IsTableAt a) come.own
    says =
        let array : List Part = header_path tables [] keys in
        let top : Mention = record { path = array; kind = marks_of.element } in
        let new : Mention = record { path = next_of array tables; kind = marks_of.begun } in
        let no_element : array ≡ a → ⊥ =
        ends_disjoint array a (path_ends tables [] k ks) (map key keys, number, refl) in
        subst (AllOf (IsTableAt a)) own_is
        (all_join (IsTableAt a) (header_prefixes tables [] keys) (top ∷ new ∷ []) (way_says a tables keys)
        ((λ e. absurd (no_element e)), ((λ e. (refl, refl)), tt)))

    flat : (q rest : List Part) → a ≡ q ++ rest → is_bracket_at ms q ≡ false
    flat q [] e =
        let here : q ≡ a = sym (append-nil q) ∙ sym e in
        let none : kinds_at q ms ≡ [] =
        kinds_at-disjoint a q [] ms unsaid
        (ap (strip a) (here ∙ sym (append-nil a)) ∙ strip-append a []) in
        ap (λ (kinds : List MentionKind). bracket_of (first_of (filter_map fact_of kinds))) none
    flat q (x ∷ rest) e =
        let (more, is) = before_last (map key keys) (index number) q x rest e in
        let f : AreFirst keys q = are_first keys q more is in
        ap (is_bracket_at ms) f.is ∙ h.no_brackets f.first f.rest f.all

    opens : OpensBody profile s keys a content come.own
    opens = record {
      valid = fine.valid;
      closed = h.appends.closed;
      utf8 = h.appends.utf8;
      below = refl;
      names =
          filter_map-append key_text (map key keys) (index number ∷ []) ∙ append-nil (keys_in (map key keys))
          ∙ keys_of_map keys;
      begun = begun;
      unsaid = unsaid;
      says = says;
      flat = flat;
    }

pub element_opened : (profile : Profile) (limit : ℕ) (s : Document) (keys : List (List ℕ)) (number : ℕ)
    (c : TextChange) → IsEditable profile limit s → AppendsNewElement profile limit s keys number c
    → IsOpen profile limit (newline_of s).text (edited_document s (append_element keys)) (element_at keys number) []
element_opened profile limit s [] number c fine h = let no = h.appends.allowed in absurd cc
element_opened profile limit s (k ∷ ks) number c fine h =
    let keys : List (List ℕ) = k ∷ ks in
    let one : Content = element [] (key_with keys) [] in
    let a : List Part = element_at keys number in
    let come : HeaderComes s keys c one = element_comes profile limit s keys c fine h.appends in
    after_header (λ (t : Document). IsOpen profile limit (newline_of s).text t a []) s one keys c come
    (header_opens profile limit s keys c one a come (opens profile limit s k ks number c fine h))
