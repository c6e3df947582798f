-- If one of some edits that are made at once adds a line, so are the others with an insert of another value there in
-- its place; and they make what a later set of the value makes after all of them.
--
-- Right after the insert the set replaces the line's value, behind what is as long as in the first document
-- (GivenTexts). The insert leaves each later edit alone, whose change is beside the whole line, so the set
-- makes its change still (`set_there`, by induction on the later edits). With the later value in the text of the line
-- this is the text that the other edits make, and a text is that of one document (`same_document`). The insert is found
-- by its change, which no other edit makes (`found_there`, by OneInsert). Each edit makes its change of the first
-- document, so none follows a header, and each has its place (`all_made`).
--
-- Theorems: `run_goes_on_inserted`; `all_made`, `made_at_once`, `made_run`: edits that follow no header; `found_there`:
-- the insert among them.
use Rattle.std.proofs.Common.{◌≡◌, ◌≢◌, ℕ, ◌+◌, ◌≤◌, List, [], ◌∷◌, ◌++◌, length, take, All}
use Rattle.std.proofs.Common.{refl, sym, ap, ap₂, subst, subst₂, ◌∙◌, arith, length-append, None, ◌⊎◌, inl, inr}
use Rattle.std.specs.Prelude.{IsTrue, ⊤}
use Rattle.std.proofs.lemmas.List.Elements.{All-head, All-nil, All-tail, All-weaker}
use Rattle.keep_types.specs.declared.leaf.Profile.{Profile}
use Rattle.keep_syntax.specs.Tree.{Document, Value, text, value_text}
use Rattle.keep_syntax.proofs.Shared.{one_document}
use Rattle.keep_path.specs.Path.{Part}
use Rattle.keep_edit_spec.specs.AddedLines.{first_new}
use Rattle.keep_edit_spec.specs.Changed.{put}
use Rattle.keep_edit_spec.specs.Edits.{Edit, edited_document, insert, set}
use Rattle.keep_edit_spec.specs.InsertKinds.{AddsAs, kind_of}
use Rattle.keep_edit_spec.specs.InsertLists.{RunGoesOnInserted}
use Rattle.keep_edit_spec.specs.Laws.{IsEditable}
use Rattle.keep_edit_spec.specs.Lines.{newline_of}
use Rattle.keep_edit_spec.specs.Refusals.{refusal}
use Rattle.keep_edit_spec.specs.RunLists.{AreAtOnce, MadeEdit, changes_of, document_after, lines_of, made, seen_of}
use Rattle.keep_edit_spec.specs.Runs.{LeaveNewline, IsBeforeHeaders, IsInOrder, IsRun, KeepsPlace, LeavesAlone}
use Rattle.keep_edit_spec.specs.Runs.{LetsCome, MakesChange, is_insert, seen}
use Rattle.keep_edit_spec.specs.SetValues.{SetsValue}
use Rattle.keep_edit_spec.specs.TextChanges.{Follow, IsBeside, TextChange, change_at, moved_by_all, moved_past}
use Rattle.keep_edit_spec.specs.TextChanges.{place_of_change, text_with, with_change}
use Rattle.keep_edit_spec.specs.declared.line_kind.LineKind.{LineKind}
use Rattle.keep_edit_spec.proofs.EditLaws.{change_put, set_lawful}
use Rattle.keep_edit_spec.proofs.Lists.BehindHeaders.{not_both}
use Rattle.keep_edit_spec.proofs.Lists.ExchangedChanges.{IsAmong, IsAmongFirst, IsAmongMore, IsFoundThere}
use Rattle.keep_edit_spec.proofs.Lists.ExchangedChanges.{found_other, found_own, goes_among, moved_there, put_among}
use Rattle.keep_edit_spec.proofs.Lists.ExchangedChanges.{put_part, starts_there, text_after, text_parts, text_to}
use Rattle.keep_edit_spec.proofs.Lists.ExchangedEdits.{alone_more, beside_more, beside_of, changes_more, each_more}
use Rattle.keep_edit_spec.proofs.Lists.ExchangedEdits.{left_more, placed_more, set_still}
use Rattle.keep_edit_spec.proofs.Lists.GivenTexts.{IsGiven, given, given_alike, given_as_long, same_place}
use Rattle.keep_edit_spec.proofs.Lists.GivenTexts.{set_right_after}
use Rattle.keep_edit_spec.proofs.Lists.LineKinds.{as_of_kind, keys_of_line, kind_is}
use Rattle.keep_edit_spec.proofs.Lists.MadeChanges.{added, within_text}
use Rattle.keep_edit_spec.proofs.Lists.OneInsert.{only_insert}
use Rattle.keep_edit_spec.proofs.Lists.RunLists.{run_is_known}
use Rattle.keep_edit_spec.proofs.Lists.TextChanges.{all_with}
use Rattle.keep_edit_spec.specs.FirstNewline.{LeavesNewline}

-- ---- edits that follow no header

-- Each makes its change of the first document in its place.
abbrev pub AreMade : Profile → ℕ → Document → List MadeEdit → Type 0
AreMade profile limit s [] = ⊤
AreMade profile limit s (m ∷ ms) =
    MakesChange profile limit s m.edit m.change
    × (All (λ e. LeavesAlone e (seen s m.edit)) (seen_of s ms)
    × (All (λ d. IsBeside d m.change) (changes_of ms)
    × (KeepsPlace s (seen_of s ms) (changes_of ms) (lines_of s ms) m.edit m.change
    × AreMade profile limit s ms)))

pub all_made : (profile : Profile) (limit : ℕ) (s : Document) (ms : List MadeEdit) → AreAtOnce profile limit s ms
    → All (λ m. MakesChange profile limit s m.edit m.change) ms → AreMade profile limit s ms
all_made profile limit s [] h make = tt
all_made profile limit s (m ∷ ms) (in_place, (alone, (beside, others))) make =
    let P : MadeEdit → Type 0 = λ m. MakesChange profile limit s m.edit m.change in
    let its : MakesChange profile limit s m.edit m.change = All-head P m ms make in (
      its,
      (
        alone,
        (
          beside,
          (
            elim in_place [
              | inl (makes, placed) ↦ placed
              | inr (follows, keeps) ↦ absurd (not_both profile limit s (lines_of s ms) m.edit m.change its follows)
            ],
            all_made profile limit s ms others (All-tail P m ms make),
          ),
        ),
      ),
    )

pub made_at_once : (profile : Profile) (limit : ℕ) (s : Document) (ms : List MadeEdit) → AreMade profile limit s ms
    → AreAtOnce profile limit s ms
made_at_once profile limit s [] h = tt
made_at_once profile limit s (m ∷ ms) (makes, (alone, (beside, (placed, others)))) =
    (inl (makes, placed), (alone, (beside, made_at_once profile limit s ms others)))

pub made_run : (profile : Profile) (limit : ℕ) (s : Document) (ms : List MadeEdit) → IsEditable profile limit s
    → AreMade profile limit s ms
    → IsRun profile limit s (seen_of s ms) (changes_of ms) (lines_of s ms) (document_after s ms)
made_run profile limit s ms fine h = run_is_known profile limit s ms fine (made_at_once profile limit s ms h)

-- ---- the insert and another value

-- what holds of all holds of the one
pub of_one : (s : Document) (P : Edit → Type 0) (m : MadeEdit) (later earlier : List MadeEdit)
    → All P (seen_of s (later ++ m ∷ earlier)) → P (seen s m.edit)
of_one s P m [] earlier h = All-head P (seen s m.edit) (seen_of s earlier) h
of_one s P m (x ∷ later) earlier h =
    of_one s P m later earlier (All-tail P (seen s x.edit) (seen_of s (later ++ m ∷ earlier)) h)

module _ (profile : Profile) (limit : ℕ) (s : Document) (path : List Part) (value : Value) (c : TextChange)
    (more : Value) (d : TextChange) (kind : LineKind) (fine : IsEditable profile limit s)
    (h : AddsAs kind profile limit s path value c) (k : AddsAs kind profile limit s path more d) where
  abbrev m : MadeEdit
  m = made (insert path value) c

  abbrev by : MadeEdit
  by = made (insert path more) d

  abbrev its : IsGiven s value c
  its = given kind profile limit s path value c fine h

  abbrev its_more : IsGiven s more d
  its_more = given kind profile limit s path more d fine k

  -- ---- the two lines

  none : c.size ≡ 0
  none = (added profile limit s path value c (kind, h)).adds

  no_size : d.size ≡ 0
  no_size = (added profile limit s path more d (kind, k)).adds

  abbrev keys : List ℕ
  keys = its.before

  abbrev newline : List ℕ
  newline = (newline_of s).text

  at : c.at ≡ d.at
  at = same_place profile limit s path value more c d kind h k

  c_is : c.new ≡ keys ++ (value_text value ++ newline)
  c_is = its.text

  d_is : d.new ≡ keys ++ (value_text more ++ newline)
  d_is =
      its_more.text
      ∙ ap (λ (t : List ℕ). t ++ (value_text more ++ newline))
      (sym (given_alike profile limit s path value more c d kind fine h k))

  -- the other insert after the edits before it
  alone_first : (earlier : List MadeEdit)
      → All (λ e. LeavesAlone e (seen s (insert path value))) (seen_of s earlier)
      → All (λ e. LeavesAlone e (seen s (insert path more))) (seen_of s earlier)
  alone_first earlier =
      All-weaker (λ e. LeavesAlone e (seen s (insert path value))) (λ e. LeavesAlone e (seen s (insert path more)))
      (alone_more (first_new s path) value more) (seen_of s earlier)

  beside_first : (earlier : List MadeEdit) → All (λ x. IsBeside x c) (changes_of earlier)
      → All (λ x. IsBeside x d) (changes_of earlier)
  beside_first earlier =
      All-weaker (λ x. IsBeside x c) (λ x. IsBeside x d) (beside_of c d at none no_size) (changes_of earlier)

  placed_first : (earlier : List MadeEdit)
      → KeepsPlace s (seen_of s earlier) (changes_of earlier) (lines_of s earlier) (insert path value) c
      → KeepsPlace s (seen_of s earlier) (changes_of earlier) (lines_of s earlier) (insert path more) d
  placed_first earlier =
      subst (λ (n : ℕ). IsInOrder (seen_of s earlier) (changes_of earlier) (lines_of s earlier)
      (record { first = first_new s path; at = n; kind = kind_of s path })
      × (All (λ e. IsTrue (is_insert e)) (seen_of s earlier)
      ⊎ (LeaveNewline s (changes_of earlier) × (All (LetsCome (text s) (changes_of earlier) n) (changes_of earlier)
      × IsBeforeHeaders (text s) (seen_of s earlier) n)))) at

  -- ---- the set after the edits

  -- the change of the set where the line begins at this byte
  abbrev there : ℕ → TextChange
  there start = change_at (start + length keys) (length (value_text value)) (value_text more)

  record IsSetThere (ms others : List MadeEdit) : Type 0 where
    among : IsAmong c d (changes_of ms) (changes_of others)
    sets : SetsValue profile limit (document_after s ms) path more (there (moved_by_all among.before c.at))

  set_first : (earlier : List MadeEdit) → AreMade profile limit s (m ∷ earlier)
      → IsSetThere (m ∷ earlier) (by ∷ earlier)
  set_first earlier (makes, (alone, (beside, (placed, others)))) =
      let run : IsRun profile limit s (seen_of s earlier) (changes_of earlier) (lines_of s earlier)
      (document_after s earlier) =
      made_run profile limit s earlier fine others in
      let first : IsAmongFirst (changes_of earlier) c d = put_among (changes_of earlier) c d run.follow at in
      let now : Document = document_after s earlier in
      let moved : TextChange = moved_past (changes_of earlier) c in
      let moved_more : TextChange = moved_past (changes_of earlier) d in
      let (made_now, still) = run.later (insert path value) c makes alone beside placed in
      let (made_more, still_more) =
      run.later (insert path more) d (kind, k) (alone_first earlier alone) (beside_first earlier beside)
      (placed_first earlier placed) in
      let own : kind_of now path ≡ kind = still.1 ∙ kind_is kind profile limit s path value c h in
      let line_now : AddsAs kind profile limit now path value moved =
      as_of_kind kind profile limit now path value moved own made_now in
      let long : length (given kind profile limit now path value moved run.editable line_now).before ≡ length keys =
      sym (given_as_long kind profile limit s now path value c moved fine run.editable h line_now refl still.0) in
      record {
        among = first.among;
        sets = subst₂ (λ (n m : ℕ). SetsValue profile limit (edited_document now (insert path value)) path more
            (change_at (n + m) (length (value_text value)) (value_text more))) (sym first.start) long
            (set_right_after kind profile limit now path value moved run.editable line_now more moved_more
            (as_of_kind kind profile limit now path more moved_more own made_more));
      }

  few : length keys + length (value_text value) ≤ length c.new
  few =
      omega (
        arith,
        ap (λ (t : List ℕ). length t) c_is,
        length-append keys (value_text value ++ newline),
        length-append (value_text value) newline,
      )

  set_there : (later earlier : List MadeEdit) → AreMade profile limit s (later ++ m ∷ earlier)
      → IsSetThere (later ++ m ∷ earlier) (later ++ by ∷ earlier)
  set_there [] earlier all = set_first earlier all
  set_there (x ∷ later) earlier (makes, (alone, (beside, (placed, others)))) =
      let ms : List MadeEdit = later ++ m ∷ earlier in
      let now : Document = document_after s ms in
      let run : IsRun profile limit s (seen_of s ms) (changes_of ms) (lines_of s ms) now =
      made_run profile limit s ms fine others in
      let before : IsSetThere ms (later ++ by ∷ earlier) = set_there later earlier others in
      let start : ℕ = moved_by_all before.among.before c.at in
      let e : TextChange = moved_past (changes_of ms) x.change in
      let (made_now, as_seen) = run.later x.edit x.change makes alone beside placed in
      let goes : IsAmongMore c d (changes_of ms) (changes_of (later ++ by ∷ earlier)) start x.change =
      goes_among c d (changes_of ms) (changes_of (later ++ by ∷ earlier)) before.among x.change none at run.follow
      beside in
      let next : ℕ = moved_by_all goes.among.before c.at in
      let (side, moves) =
      moved_there start next (length c.new) e (there start) (length keys) refl before.sets.some few goes.there in
      record {
        among = goes.among;
        sets = subst (λ (n : ℕ). SetsValue profile limit (edited_document now x.edit) path more
            (change_at n (length (value_text value)) (value_text more))) moves
            (set_still profile limit s now path value more (keys_of_line kind profile limit s path value c h)
            (there start) run.editable before.sets x.edit e x.change makes
            (of_one s (λ f. LeavesAlone f (seen s x.edit)) m later earlier alone) made_now as_seen side);
      }

  -- ---- the other edits

  at_once : (later earlier : List MadeEdit)
      → LeavesNewline s d ⊎ All (λ e. IsTrue (is_insert e)) (seen_of s (later ++ m ∷ earlier))
      → AreMade profile limit s (later ++ m ∷ earlier) → AreMade profile limit s (later ++ by ∷ earlier)
  at_once [] earlier plain (makes, (alone, (beside, (placed, others)))) = (
    (kind, k),
    (alone_first earlier alone, (beside_first earlier beside, (placed_first earlier placed, others))),
  )
  at_once (x ∷ later) earlier plain (makes, (alone, (beside, (placed, others)))) =
      let ms : List MadeEdit = later ++ m ∷ earlier in
      let among : IsAmong c d (changes_of ms) (changes_of (later ++ by ∷ earlier)) =
      (set_there later earlier others).among in (
        makes,
        (
          each_more s (λ e. LeavesAlone e (seen s x.edit)) m by later earlier
              (left_more (first_new s path) value more (seen s x.edit)) alone,
          (
            changes_more (λ y. IsBeside y x.change) c d (changes_of ms) (changes_of (later ++ by ∷ earlier)) among
                (beside_more c d at none no_size x.change) beside,
            (
              placed_more c d at none no_size s (changes_of ms) (changes_of (later ++ by ∷ earlier)) among path path
                  value more refl refl later earlier x.edit x.change (alike plain) placed,
              at_once later earlier (fewer plain) others,
            ),
          ),
        ),
      )
    where
      fewer : LeavesNewline s d ⊎ All (λ e. IsTrue (is_insert e)) (seen_of s (x ∷ later ++ m ∷ earlier))
          → LeavesNewline s d ⊎ All (λ e. IsTrue (is_insert e)) (seen_of s (later ++ m ∷ earlier))
      fewer (inl new) = inl new
      fewer (inr all) =
          inr (All-tail (λ e. IsTrue (is_insert e)) (seen s x.edit) (seen_of s (later ++ m ∷ earlier)) all)

      alike : LeavesNewline s d ⊎ All (λ e. IsTrue (is_insert e)) (seen_of s (x ∷ later ++ m ∷ earlier))
          → LeavesNewline s d
          ⊎ (IsTrue (is_insert (seen s x.edit)) × All (λ e. IsTrue (is_insert e)) (seen_of s (later ++ m ∷ earlier)))
      alike (inl new) = inl new
      alike (inr all) = inr (
        All-head (λ e. IsTrue (is_insert e)) (seen s x.edit) (seen_of s (later ++ m ∷ earlier)) all,
        All-tail (λ e. IsTrue (is_insert e)) (seen s x.edit) (seen_of s (later ++ m ∷ earlier)) all,
      )

  -- ---- the document

  module _ (ms others : List MadeEdit) (it : IsSetThere ms others) (all : AreMade profile limit s ms)
      (still : AreMade profile limit s others) where
    abbrev now : Document
    now = document_after s ms

    run : IsRun profile limit s (seen_of s ms) (changes_of ms) (lines_of s ms) now
    run = made_run profile limit s ms fine all

    other_run : IsRun profile limit s (seen_of s others) (changes_of others) (lines_of s others)
        (document_after s others)
    other_run = made_run profile limit s others fine still

    -- the text on both sides of the line
    abbrev left : List ℕ
    left = text_to 0 (text s) it.among.before c

    abbrev right : List ℕ
    right = text_after (text s) c it.among.after

    text_now : text now ≡ left ++ ((keys ++ (value_text value ++ newline)) ++ right)
    text_now =
        run.text ∙ ap (text_with 0 (text s)) it.among.is
        ∙ text_parts 0 (text s) it.among.before it.among.after c (subst (Follow 0) it.among.is run.follow)
        ∙ ap (λ (t : List ℕ). left ++ (t ++ right)) c_is

    text_other : text (document_after s others) ≡ left ++ ((keys ++ (value_text more ++ newline)) ++ right)
    text_other =
        let ends : d.at + d.size ≡ c.at + c.size = omega (arith, at, none, no_size) in
        other_run.text ∙ ap (text_with 0 (text s)) it.among.other
        ∙ text_parts 0 (text s) it.among.before it.among.after d (subst (Follow 0) it.among.other other_run.follow)
        ∙ ap₂ (λ (n z : ℕ).
        text_with 0 (take n (text s)) it.among.before ++ (d.new ++ text_with z (text s) it.among.after)) (sym at) ends
        ∙ ap (λ (t : List ℕ). left ++ (t ++ right)) d_is

    starts : length left ≡ moved_by_all it.among.before c.at
    starts =
        starts_there (text s) it.among.before it.among.after c
        (let in_text : c.at + c.size ≤ length (text s) =
        within_text profile limit s (insert path value) c fine (kind, h) in omega (arith, in_text))
        (subst (Follow 0) it.among.is run.follow)

    text_then : text (edited_document now (set path more)) ≡ text (document_after s others)
    text_then =
        change_put now (set path more) ∙ ap (put (text now)) it.sets.is
        ∙ ap (λ (t : List ℕ). put t (place_of_change (there (moved_by_all it.among.before c.at)))) text_now
        ∙ put_part left keys (value_text value) newline right (value_text more)
        (moved_by_all it.among.before c.at + length keys) (length (value_text value)) (omega (arith, starts)) refl
        ∙ sym text_other

    same_document : edited_document now (set path more) ≡ document_after s others
    same_document =
        one_document profile (edited_document now (set path more)) (document_after s others)
        (set_lawful profile limit now path more run.editable it.sets.given it.sets.allowed).reads.valid
        other_run.editable.valid text_then

-- ---- the insert among the edits

-- The edits with the one, which is an insert of the path, and the others with another in its place.
pub record IsFound (path : List Part) (more : Value) (ms : List MadeEdit) (before : List TextChange) (c d : TextChange)
    (after : List TextChange) : Type 0 where
  pub value : Value
  pub later : List MadeEdit
  pub earlier : List MadeEdit
  pub all : ms ≡ later ++ made (insert path value) c ∷ earlier
  pub changes : changes_of (later ++ made (insert path more) d ∷ earlier) ≡ before ++ d ∷ after

module _ (profile : Profile) (limit : ℕ) (s : Document) (path : List Part) (value : Value) (c : TextChange)
    (more : Value) (d : TextChange) (fine : IsEditable profile limit s)
    (its : MakesChange profile limit s (insert path value) c) (same : c.at ≡ d.at) where
  -- edits that leave an insert of the path alone make other changes
  others_differ : (ms : List MadeEdit) (new : Value) → AreMade profile limit s ms
      → All (λ e. LeavesAlone e (seen s (insert path new))) (seen_of s ms) → All (λ x. x ≢ c) (changes_of ms)
  others_differ [] new all alone = All-nil (λ x. x ≢ c)
  others_differ (x ∷ ms) new (makes, (own, (beside, (placed, others)))) alone =
      all_with (λ y. y ≢ c) (changes_of ms) x.change
      (others_differ ms new others
      (All-tail (λ e. LeavesAlone e (seen s (insert path new))) (seen s x.edit) (seen_of s ms) alone))
      (by (only_insert profile limit s path value c fine its x.edit x.change makes)
      (All-head (λ e. LeavesAlone e (seen s (insert path new))) (seen s x.edit) (seen_of s ms) alone))
    where
      by : ((w : Value) × (x.edit ≡ insert path w)) ⊎ (x.change ≢ c)
          → LeavesAlone (seen s x.edit) (seen s (insert path new)) → x.change ≢ c
      by (inr differs) apart = differs
      by (inl (w, is)) apart = λ e.
          subst (λ (f : Edit). LeavesAlone (seen s f) (seen s (insert path new))) is apart refl

  pub found_there : (ms : List MadeEdit) (before after : List TextChange) → AreMade profile limit s ms
      → changes_of ms ≡ before ++ c ∷ after → IsFound path more ms before c d after
  found_there [] before after all is = absurd (no_more before is)
    where
      no_more : (l : List TextChange) → [] ≡ l ++ c ∷ after → ⊥
      no_more [] e = absurd cc
      no_more (y ∷ l) e = absurd cc
  found_there (x ∷ ms) before after (makes, (alone, (beside, (placed, others)))) is =
      by (only_insert profile limit s path value c fine its x.edit x.change makes)
      (λ l r. found_there ms l r others)
    where
      by : ((w : Value) × (x.edit ≡ insert path w)) ⊎ (x.change ≢ c)
          → ((l r : List TextChange) → changes_of ms ≡ l ++ c ∷ r → IsFound path more ms l c d r)
          → IsFound path more (x ∷ ms) before c d after
      by (inl (w, is_w)) ih =
          let apart : All (λ y. y ≢ c) (changes_of ms) =
          others_differ ms w others
          (subst (λ (f : Edit). All (λ e. LeavesAlone e (seen s f)) (seen_of s ms)) is_w alone) in
          let own : (d.at ≡ x.change.at) → (x.change ≡ c) × (with_change (changes_of ms) d ≡ before ++ d ∷ after) =
          λ there. found_own (changes_of ms) x.change c d before after apart there is in
          let is_c : x.change ≡ c =
          (found_own (changes_of ms) x.change c x.change before after apart refl is).0 in
          record {
            value = w;
            later = [];
            earlier = ms;
            all = ap₂ (λ (f : Edit) (y : TextChange). made f y ∷ ms) is_w is_c;
            changes = (own (sym same ∙ sym (ap (λ (y : TextChange). y.at) is_c))).1;
          }
      by (inr differs) ih =
          let found : IsFoundThere (changes_of ms) x.change c d before after =
          found_other (changes_of ms) x.change c d before after differs same is in
          let more_found : IsFound path more ms found.left c d found.right = ih found.left found.right found.was in
          record {
            value = more_found.value;
            later = x ∷ more_found.later;
            earlier = more_found.earlier;
            all = ap (λ (l : List MadeEdit). x ∷ l) more_found.all;
            changes = ap (λ (l : List TextChange). with_change l x.change) more_found.changes ∙ found.is;
          }

pub run_goes_on_inserted : RunGoesOnInserted
run_goes_on_inserted profile limit s ms path value more kind before c d after fine were make adds is makes plain =
    let all : AreMade profile limit s ms = all_made profile limit s ms were make in
    let same : c.at ≡ d.at = same_place profile limit s path value more c d kind adds makes in
    let found : IsFound path more ms before c d after =
    found_there profile limit s path value c more d fine (kind, adds) same ms before after all is in
    let own : Value = found.value in
    let others : List MadeEdit = found.later ++ made (insert path more) d ∷ found.earlier in
    let ours : AreMade profile limit s (found.later ++ made (insert path own) c ∷ found.earlier) =
    subst (AreMade profile limit s) found.all all in
    let its : AddsAs kind profile limit s path own c =
    of_kind own (its_own found.later found.earlier own ours) in
    let still : AreMade profile limit s others =
    at_once profile limit s path own c more d kind fine its makes found.later found.earlier
    (subst (λ (l : List MadeEdit). LeavesNewline s d ⊎ All (λ e. IsTrue (is_insert e)) (seen_of s l)) found.all plain)
    ours in
    let there_set = set_there profile limit s path own c more d kind fine its makes found.later found.earlier ours in
    let put_there : TextChange =
    there profile limit s path own c more d kind fine its makes (moved_by_all there_set.among.before c.at) in
    record {
      value = own;
      others = others;
      exchanged = record { later = found.later; earlier = found.earlier; all = found.all; other = refl };
      changes = found.changes;
      at = same;
      there = put_there;
      new_is = refl;
      sets = subst (λ (l : List MadeEdit). SetsValue profile limit (document_after s l) path more put_there)
          (sym found.all) there_set.sets;
      allowed = subst (λ (l : List MadeEdit). refusal profile limit (document_after s l) (set path more) ≡ None)
          (sym found.all) there_set.sets.allowed;
      same = ap (λ (l : List MadeEdit). edited_document (document_after s l) (set path more)) found.all
          ∙ same_document profile limit s path own c more d kind fine its makes
          (found.later ++ made (insert path own) c ∷ found.earlier) others there_set ours still;
      still = made_at_once profile limit s others still;
    }
  where
    -- an insert there adds its line to a table of the same kind
    of_kind : (w : Value) → MakesChange profile limit s (insert path w) c → AddsAs kind profile limit s path w c
    of_kind w = as_of_kind kind profile limit s path w c (kind_is kind profile limit s path value c adds)

    its_own : (later earlier : List MadeEdit) (w : Value)
        → AreMade profile limit s (later ++ made (insert path w) c ∷ earlier)
        → MakesChange profile limit s (insert path w) c
    its_own [] earlier w h = h.0
    its_own (x ∷ later) earlier w h = its_own later earlier w h.1.1.1.1
