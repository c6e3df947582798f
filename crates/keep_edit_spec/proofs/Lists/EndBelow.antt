-- An insert into a table through which a header at the end of the text goes: it is at the end, too, right behind that
-- header and the lines of the table that came there, and before what came later.
--
-- Before the header it brings that of the table at some byte (BroughtOverEnds, `brings_there`), and after it at the end
-- of the text (`brings_behind`). Where other inserts into the table came there, it adds its line alone, behind theirs
-- (EndOwnLines). So it is at the end right there. What came later comes after it, too, as after any edit that comes
-- before (`goes_on`, by `EndComesLater`): no header of that is of the table, or goes through it where the table's
-- header is brought (`lets_all`), and a line alone lets all come (`lets_none`).
--
-- Theorem: `end_goes_on_below`.
use Rattle.std.proofs.Common.{◌≡◌, ◌≢◌, ℕ, List, [], ◌∷◌, ◌++◌, length, map, All, refl, sym, ap, subst, ◌∙◌, None, Some}
use Rattle.std.proofs.Common.{Option}
use Rattle.std.proofs.Common.{inl, inr}
use Rattle.std.proofs.lemmas.List.Elements.{All-cons, All-head, All-nil, All-tail, All-weaker}
use Rattle.keep_types.specs.declared.leaf.Profile.{Profile}
use Rattle.keep_syntax.specs.Tree.{Document, Value, text}
use Rattle.keep_path.specs.Path.{Part, key, strip, without_last}
use Rattle.keep_meaning.specs.Meaning.{mentions_in}
use Rattle.keep_edit_spec.specs.AddedLines.{first_new}
use Rattle.keep_edit_spec.specs.BroughtHeaders.{BringsHeader}
use Rattle.keep_edit_spec.specs.Edits.{Edit, append_element, append_table, edited_document, insert, remove, rename, set}
use Rattle.keep_edit_spec.specs.EndEdits.{AreAtEnd, BeginWithHeader, ComesBefore, ComesBelow, EndsLeave}
use Rattle.keep_edit_spec.specs.EndEdits.{EndComesLater, EndEdit, EndGoesOnBelow, GoesThrough, IsAtEnd, IsInto}
use Rattle.keep_edit_spec.specs.EndEdits.{IsMadeBefore, IsMadeBelow, IsNotOf, LetsLine, document_with, written_below}
use Rattle.keep_edit_spec.specs.FirstNewline.{HasFirst, LeavesFirstAtEnd}
use Rattle.keep_edit_spec.specs.InsertKinds.{Added, added_as, kind_of, table_of}
use Rattle.keep_edit_spec.specs.Insertion.{keyed_text}
use Rattle.keep_edit_spec.specs.Laws.{IsEditable, IsLawfulEdit}
use Rattle.keep_edit_spec.specs.Lines.{newline_of}
use Rattle.keep_edit_spec.specs.Look.{holder, keys_in}
use Rattle.keep_edit_spec.specs.Refusals.{refusal}
use Rattle.keep_edit_spec.specs.Runs.{LeavesAlone, PassesBy, PassesTable, seen}
use Rattle.keep_edit_spec.specs.TextChanges.{TextChange, change_at}
use Rattle.keep_edit_spec.specs.declared.line_kind.LineKind.{LineKind}
use Rattle.keep_edit_spec.specs.declared.line_kind.LineKind.TheVariants.{LastInBody, WithHeader}
use Rattle.keep_edit_spec.proofs.Rename.RenamedParts.{strip_self}
use Rattle.keep_edit_spec.proofs.Lists.AheadDocuments.{adds_bytes}
use Rattle.keep_edit_spec.proofs.Lists.BroughtOverEnds.{BringsSomewhere, BringsStill, below_header, over_all}
use Rattle.keep_edit_spec.proofs.Lists.EndJoined.{all_first, all_last, document_joined, ends_joined, ends_split}
use Rattle.keep_edit_spec.proofs.Lists.EndJoined.{fine_after, fine_after_one, first_after}
use Rattle.keep_edit_spec.proofs.Lists.EndOwnLines.{AddsAtEnd, line_leaves, over_own}
use Rattle.keep_edit_spec.proofs.Lists.KeysThrough.{keys_alone, through_or_not}
use Rattle.keep_edit_spec.proofs.Lists.LineKinds.{keys_of_line, kind_is, table_is}
use Rattle.keep_edit_spec.proofs.Lists.EndTexts.{end_first}
use Rattle.keep_edit_spec.proofs.Lists.MadeChanges.{change_allowed, change_lawful}

-- ---- what came later

module _ (profile : Profile) (limit : ℕ) (table : List Part) (is_keys : map key (keys_in table) ≡ table) (l : Added)
    (is_table : table_of l ≡ table) where
  -- a header that is not of the table and does not go through it passes by it
  passes : (keys : List (List ℕ)) → (GoesThrough table (append_table keys) → ⊥) → map key keys ≢ table
      → PassesTable keys l
  passes keys not_through other head = elim (through_or_not keys table is_keys) [
    | inl clear ↦ subst (PassesBy keys) (sym is_table) clear
    | inr (inl same) ↦ absurd (other same)
    | inr (inr goes) ↦ absurd (not_through goes)
  ]

  elsewhere : (first : List Part) → strip table (without_last first) ≡ None → table_of l ≢ without_last first
  elsewhere first apart same =
      let some : strip table (without_last first) ≡ Some [] =
      ap (strip table) (sym same ∙ is_table) ∙ strip_self table in
      let both : None ≡ Some [] = sym apart ∙ some in
      absurd cc

  lets_seen : (x : Document) (f : Edit) → (GoesThrough table f → ⊥) → IsNotOf table (seen x f)
      → LetsLine l (seen x f)
  lets_seen x (append_table keys) not_through other = passes keys not_through other
  lets_seen x (append_element keys) not_through other = passes keys not_through other
  lets_seen x (insert path value) not_through other = λ head. elsewhere (first_new x path) other
  lets_seen x (set path value) not_through other = tt
  lets_seen x (rename path name) not_through other = tt
  lets_seen x (remove path) not_through other = tt

  -- the others let the line with the table's header come
  lets_all : (x : Document) (ts : List EndEdit) → AreAtEnd profile limit x ts
      → All (λ t. GoesThrough table t.edit → ⊥) ts → All (λ t. IsNotOf table t.seen) ts
      → All (λ t. LetsLine l t.seen) ts
  lets_all x [] ends not_through others = All-nil (λ (t : EndEdit). LetsLine l t.seen)
  lets_all x (t ∷ ts) ends not_through others =
      All-cons (λ (u : EndEdit). LetsLine l u.seen) t ts
      (subst (LetsLine l) ends.0.seen_is
      (lets_seen x t.edit (All-head (λ (u : EndEdit). GoesThrough table u.edit → ⊥) t ts not_through)
      (subst (IsNotOf table) (sym ends.0.seen_is) (All-head (λ (u : EndEdit). IsNotOf table u.seen) t ts others))))
      (lets_all (edited_document x t.edit) ts ends.1
      (All-tail (λ (u : EndEdit). GoesThrough table u.edit → ⊥) t ts not_through)
      (All-tail (λ (u : EndEdit). IsNotOf table u.seen) t ts others))

-- a line without a header lets all come
lets_none : (l : Added) → l.kind ≡ LastInBody → (f : Edit) → LetsLine l f
lets_none l is (append_table keys) = λ head. (let both : LastInBody ≡ WithHeader = sym is ∙ head in absurd cc)
lets_none l is (append_element keys) = λ head. (let both : LastInBody ≡ WithHeader = sym is ∙ head in absurd cc)
lets_none l is (insert path value) = λ head. (let both : LastInBody ≡ WithHeader = sym is ∙ head in absurd cc)
lets_none l is (set path value) = tt
lets_none l is (rename path name) = tt
lets_none l is (remove path) = tt

-- ---- right there

-- an insert that is at the end after some of the edits, and comes before the others
module _ (comes_later : EndComesLater) (profile : Profile) (limit : ℕ) (s : Document) (upper later : List EndEdit)
    (path : List Part) (value : Value) (kind : LineKind) (new : List ℕ) where
  abbrev its_edit : Edit
  its_edit = insert path value

  abbrev one : EndEdit
  one = record { edit = insert path value; seen = seen s (insert path value); new = new }

  -- the document before it, and after the others without it
  abbrev here : Document
  here = document_with s upper

  abbrev all : Document
  all = document_with (document_with s upper) later

  abbrev its : TextChange
  its = change_at (length (text here)) 0 new

  goes_on : AreAtEnd profile limit s upper → AreAtEnd profile limit here later
      → AddsAtEnd kind profile limit s here path value new → All (λ u. LeavesAlone u.seen (seen s its_edit)) later
      → All (λ u. LetsLine (added_as here path its) u.seen) later
      → (line : Option (List ℕ)) → EndsLeave line here later → LeavesFirstAtEnd line new
      → BeginWithHeader later → IsMadeBelow profile limit s upper later one
  goes_on above ends b alone lets line leave leaves head = record {
    allowed = subst (λ (x : Document). refusal profile limit x its_edit ≡ None) (sym all_is)
        (change_allowed profile limit all its_edit its made.makes);
    lawful = subst (λ (x : Document). IsLawfulEdit profile limit x its_edit) (sym all_is)
        (change_lawful profile limit all its_edit its (fine_after profile limit here later b.fine ends) made.makes);
    ends = ends_joined profile limit s upper (one ∷ later) above (at_end, made.ends);
    same = ap (λ (x : Document). edited_document x its_edit) all_is ∙ made.same
        ∙ sym (document_joined s upper (one ∷ later));
  }
    where
      all_is : document_with s (upper ++ later) ≡ all
      all_is = document_joined s upper later

      seen_here : seen here its_edit ≡ seen s its_edit
      seen_here = ap (λ (p : List Part). insert p value) b.first

      at_end : IsAtEnd profile limit here one
      at_end = record {
        makes = (kind, b.adds);
        seen_is = seen_here;
        some = adds_bytes profile limit here b.fine kind path value its b.adds;
      }

      before : ComesBefore here later its_edit its
      before = record {
        other = refl;
        alone = subst (λ (f : Edit). All (λ u. LeavesAlone u.seen f) later) (sym seen_here) alone;
        lets = lets;
        newline = (line, (leave, end_first profile limit here one b.fine at_end line leave.has leaves));
        clear = λ none. absurd cc;
        first = λ there. head;
      }

      made : IsMadeBefore profile limit here later its_edit its
      made = comes_later profile limit here later its_edit its b.fine ends (kind, b.adds) before

-- ---- the whole

module _ (comes_later : EndComesLater) (profile : Profile) (limit : ℕ) (s : Document) (before : List EndEdit)
    (h : EndEdit) (own later : List EndEdit) (path : List Part) (value : Value) (c : TextChange)
    (fine : IsEditable profile limit s) (ends : AreAtEnd profile limit s (before ++ h ∷ own ++ later))
    (k : BringsHeader profile limit s path value c)
    (below : ComesBelow s before h own later (holder path (mentions_in s)) (insert path value))
    (line_text : Option (List ℕ)) (leave : EndsLeave line_text s (before ++ h ∷ own ++ later))
    (leaves : LeavesFirstAtEnd line_text c.new) where
  abbrev e : Edit
  e = insert path value

  abbrev table : List Part
  table = holder path (mentions_in s)

  is_table : without_last (first_new s path) ≡ table
  is_table = table_is profile limit s path value c (keys_of_line WithHeader profile limit s path value c k)

  is_keys : map key (keys_in table) ≡ table
  is_keys = by h.edit below.through
    where
      by : (f : Edit) → GoesThrough table f → map key (keys_in table) ≡ table
      by (append_table keys) goes = keys_alone keys table goes
      by (append_element keys) goes = keys_alone keys table goes
      by (insert other more) goes = absurd goes
      by (set other more) goes = absurd goes
      by (rename other name) goes = absurd goes
      by (remove other) goes = absurd goes

  abbrev line : List ℕ
  line = keyed_text (k.text ∷ k.more) value ++ (newline_of s).text

  -- ---- the parts of the list

  abbrev upper : List EndEdit
  upper = before ++ h ∷ own

  -- the documents before the header, right after it, and before what came later
  abbrev there : Document
  there = document_with s before

  abbrev behind : Document
  behind = edited_document there h.edit

  abbrev now : Document
  now = document_with s upper

  split : AreAtEnd profile limit s upper × AreAtEnd profile limit now later
  split = ends_split profile limit s upper later ends

  split_upper : AreAtEnd profile limit s before × AreAtEnd profile limit there (h ∷ own)
  split_upper = ends_split profile limit s before (h ∷ own) split.0

  now_is : now ≡ document_with behind own
  now_is = document_joined s before (h ∷ own)

  abbrev IsAlone : EndEdit → Type 0
  IsAlone t = LeavesAlone t.seen (seen s e)

  alone_before : All IsAlone before
  alone_before = all_first IsAlone before (h ∷ own) (all_first IsAlone upper later below.alone)

  alone_own : All IsAlone (h ∷ own)
  alone_own = all_last IsAlone before (h ∷ own) (all_first IsAlone upper later below.alone)

  alone_later : All IsAlone later
  alone_later = all_last IsAlone upper later below.alone

  abbrev IsOther : EndEdit → Type 0
  IsOther t = IsNotOf table t.seen

  others_later : All IsOther later
  others_later = All-tail IsOther h later (all_last IsOther before (h ∷ later) below.others)

  abbrev IsLeft : EndEdit → Type 0
  IsLeft t = LeavesFirstAtEnd line_text t.new

  -- after those before it the first newline is known as before, and the later ones leave it
  has_now : HasFirst line_text now
  has_now =
      first_after profile limit s upper fine split.0 line_text
      (record { has = leave.has; ends = all_first IsLeft upper later leave.ends })

  leave_later : EndsLeave line_text now later
  leave_later = record { has = has_now; ends = all_last IsLeft upper later leave.ends }

  -- ---- before the header, and right after it

  fine_there : IsEditable profile limit there
  fine_there = fine_after profile limit s before fine split_upper.0

  brings_there : BringsSomewhere profile limit s there path value c.new
  brings_there =
      over_all profile limit s path value c.new table is_table is_keys s before fine (
        c.at,
        record {
          brings = subst (λ (n : ℕ). BringsHeader profile limit s path value (change_at c.at n c.new)) k.adds k;
          first = refl;
        },
      ) split_upper.0 (all_first IsOther before (h ∷ later) below.others) alone_before

  brings_behind : AddsAtEnd WithHeader profile limit s behind path value c.new
  brings_behind =
      let b : BringsStill profile limit s behind path value c.new (length (text behind)) =
      below_header profile limit s path value c.new table is_table is_keys there fine_there brings_there.0
      brings_there.1 h split_upper.1.0 below.through (All-head IsAlone h own alone_own) in
      record {
        fine = fine_after_one profile limit there h fine_there split_upper.1.0;
        adds = b.brings;
        first = b.first;
      }

  -- ---- with what came later

  -- where no other line of the table came there
  with_header : own ≡ [] → AddsAtEnd WithHeader profile limit s now path value c.new
      → IsMadeBelow profile limit s upper later (record { edit = e; seen = seen s e; new = c.new })
  with_header none b =
      let change : TextChange = change_at (length (text now)) 0 c.new in
      goes_on comes_later profile limit s upper later path value WithHeader c.new split.0 split.1 b alone_later
      (lets_all profile limit table is_keys (added_as now path change) (ap without_last b.first ∙ is_table) now later
      split.1 (below.passes none) others_later) line_text leave_later leaves below.first

  -- where some did
  with_line : AddsAtEnd LastInBody profile limit s now path value line
      → IsMadeBelow profile limit s upper later (record { edit = e; seen = seen s e; new = line })
  with_line b =
      let change : TextChange = change_at (length (text now)) 0 line in
      let is : kind_of now path ≡ LastInBody = kind_is LastInBody profile limit now path value change b.adds in
      goes_on comes_later profile limit s upper later path value LastInBody line split.0 split.1 b alone_later
      (All-weaker IsAlone (λ (u : EndEdit). LetsLine (added_as now path change) u.seen)
      (λ u alone. lets_none (added_as now path change) is u.seen) later alone_later)
      line_text leave_later
      (line_leaves profile limit s path value c k table is_table line_text leaves) below.first

  made_below : (ts : List EndEdit) → ts ≡ own
      → IsMadeBelow profile limit s upper later
      (record { edit = e; seen = seen s e; new = written_below s value (k.text ∷ k.more) c.new ts })
  made_below [] is =
      with_header (sym is) (subst (λ (x : Document). AddsAtEnd WithHeader profile limit s x path value c.new)
      (ap (document_with behind) is ∙ sym now_is) brings_behind)
  made_below (t ∷ ts) is =
      with_line (subst (λ (x : Document). AddsAtEnd LastInBody profile limit s x path value line)
      (ap (document_with behind) is ∙ sym now_is)
      (over_own profile limit s path value c k table is_table behind t ts brings_behind
      (subst (AreAtEnd profile limit behind) (sym is) split_upper.1.1)
      (subst (All (λ u. IsInto table u.seen)) (sym is) below.into)
      (subst (All IsAlone) (sym is) (All-tail IsAlone h own alone_own))))

pub end_goes_on_below : EndComesLater → EndGoesOnBelow
end_goes_on_below comes_later profile limit s before h own later path value c fine ends k below first leave leaves =
    made_below comes_later profile limit s before h own later path value c fine ends k below first leave leaves own refl
