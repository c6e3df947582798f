-- If one of some edits that are made at once adds a line of one new key, so are the others with an insert of another
-- key there in its place; and they make what a later rename of the key makes after all of them.
--
-- Right after the insert the rename replaces the key with which the line begins (KeyAdded). The edits leave both
-- inserts alone, and each later one makes its change beside the whole line, so the rename makes its change still
-- (`there`, by induction on the later edits and KeyStays). With the later key in the text of the line this is the text
-- that the other edits make, and a text is that of one document (`same_document`). The insert is found by its change,
-- which no other edit makes (InsertLists); of its value the text is known, and so the value (`same_value`).
--
-- Theorem: `run_goes_on_renamed_there`.
use Rattle.std.proofs.Common.{◌≡◌, ◌≢◌, ℕ, ◌+◌, ◌≤◌, List, [], ◌∷◌, ◌++◌, length, take, All, IsUtf8}
use Rattle.std.proofs.Common.{refl, sym, ap, ap₂, subst, ◌∙◌, arith, length-append, append_assoc, ◌⊎◌, inl, inr}
use Rattle.std.specs.Prelude.{IsTrue}
use Rattle.std.proofs.lemmas.List.{append_cancel_left, append_cancel_right, same_from_push}
use Rattle.std.proofs.lemmas.List.Elements.{All-head, All-tail, All-weaker}
use Rattle.std.proofs.lemmas.Option.{same_Some}
use Rattle.keep_types.specs.declared.leaf.Profile.{Profile}
use Rattle.keep_types.specs.declared.leaf.Profile.TheVariants.{Wide}
use Rattle.keep_token.specs.Encoded.{encoded_key}
use Rattle.keep_syntax.specs.Tree.{Document, Value, bom_leaves, text, text_of, value_text}
use Rattle.keep_syntax.proofs.Shared.{one_document, one_value}
use Rattle.keep_path.specs.Path.{Part, beside, key}
use Rattle.keep_meaning.specs.Meaning.{mentions_in}
use Rattle.keep_edit_spec.specs.AddedLines.{AddsLine, first_new}
use Rattle.keep_edit_spec.specs.Changed.{put}
use Rattle.keep_edit_spec.specs.Edits.{Edit, edited_document, end_of, insert, rename}
use Rattle.keep_edit_spec.specs.FirstNewline.{LeavesNewline}
use Rattle.keep_edit_spec.specs.InsertKinds.{added_as, kind_of, table_of}
use Rattle.keep_edit_spec.specs.Laws.{IsEditable}
use Rattle.keep_edit_spec.specs.LineKeys.{RunGoesOnRenamedThere}
use Rattle.keep_edit_spec.specs.Lines.{newline_of}
use Rattle.keep_edit_spec.specs.Look.{holder}
use Rattle.keep_edit_spec.specs.RenamedKeys.{RenamesKey}
use Rattle.keep_edit_spec.specs.RunLists.{MadeEdit, changes_of, document_after, lines_of, made, seen_of}
use Rattle.keep_edit_spec.specs.Runs.{IsBeforeHeaders, IsRun, KeepsPlace, LeaveNewline, LeavesAlone, LetsCome}
use Rattle.keep_edit_spec.specs.Runs.{MakesChange, is_insert, seen}
use Rattle.keep_edit_spec.specs.TextChanges.{Follow, IsBeside, TextChange, change_at, moved_by_all, moved_past}
use Rattle.keep_edit_spec.specs.TextChanges.{place_of_change, text_with, with_change}
use Rattle.keep_edit_spec.specs.declared.line_kind.LineKind.TheVariants.{LastInBody}
use Rattle.keep_edit_spec.proofs.EditLaws.{change_put, rename_lawful}
use Rattle.keep_edit_spec.proofs.Lists.AddedKeys.{keys_text, line_text_is}
use Rattle.keep_edit_spec.proofs.Lists.ExchangedChanges.{IsAmong, IsAmongFirst, IsAmongMore, goes_among, moved_there}
use Rattle.keep_edit_spec.proofs.Lists.ExchangedChanges.{put_among, put_part, starts_there, text_after, text_parts}
use Rattle.keep_edit_spec.proofs.Lists.ExchangedChanges.{text_to}
use Rattle.keep_edit_spec.proofs.Lists.ExchangedEdits.{beside_more, beside_of, changes_more, each_more, first_placed}
use Rattle.keep_edit_spec.proofs.Lists.ExchangedEdits.{placed_more}
use Rattle.keep_edit_spec.proofs.Lists.InsertLists.{AreMade, IsFound, all_made, found_there, made_at_once, made_run}
use Rattle.keep_edit_spec.proofs.Lists.InsertLists.{of_one}
use Rattle.keep_edit_spec.proofs.Lists.KeyAdded.{line_keyval, none_more, other_first, other_holder}
use Rattle.keep_edit_spec.proofs.Lists.KeyAdded.{rename_right_after, two, whole}
use Rattle.keep_edit_spec.proofs.Lists.KeyStays.{left_back, rename_still}
use Rattle.keep_edit_spec.proofs.Lists.LineKinds.{as_of_kind, kind_is, table_is}
use Rattle.keep_edit_spec.proofs.Lists.MadeChanges.{within_text}
use Rattle.keep_edit_spec.proofs.Lists.NewPaths.{line_keys}
use Rattle.keep_edit_spec.proofs.Lists.Places.{at_is, width}

-- ---- lines of one new key

-- the sign between the key and the value, the value and the newline
abbrev after_key : Document → Value → List ℕ
after_key s value = 0x20 ∷ 0x3D ∷ 0x20 ∷ (value_text value ++ (newline_of s).text)

module _ (profile : Profile) (limit : ℕ) (s : Document) (path : List Part) (value : Value) (c : TextChange)
    (fine : IsEditable profile limit s) (h : AddsLine profile limit s path value c) (one : first_new s path ≡ path)
  where
    -- The line begins with its key.
    line_new : c.new ≡ encoded_key h.text ++ after_key s value
    line_new =
        line_text_is profile limit s path value c (line_keyval profile limit s path value c fine h)
        ∙ ap (λ (l : List (List ℕ)). keys_text (h.text ∷ l) ++ (value_text value ++ (newline_of s).text))
        (none_more profile limit s path value c h one)
        ∙ append_assoc (encoded_key h.text) (0x20 ∷ 0x3D ∷ 0x20 ∷ []) (value_text value ++ (newline_of s).text)

    -- It is the last key of its path.
    key_is : (q : List Part) (text : List ℕ) → path ≡ q ++ key text ∷ [] → h.text ≡ text
    key_is q text is =
        let last : key h.text ≡ key text =
        (same_from_push (holder path (mentions_in s)) q (key h.text) (key text)
        (sym (whole profile limit s path value c h one) ∙ is)).1 in
        cc

    -- Lines of one path that are the same have the same value.
    same_value : (own : Value) → AddsLine profile limit s path own c → own ≡ value
    same_value own k = one_value Wide own value k.given.valid h.given.valid texts
      where
        texts : value_text own ≡ value_text value
        texts =
            let newline : List ℕ = (newline_of s).text in
            let both : encoded_key h.text ++ after_key s own ≡ encoded_key h.text ++ after_key s value =
            ap (λ (t : List ℕ). encoded_key t ++ after_key s own)
            (key_is (holder path (mentions_in s)) k.text (its k)) ∙ sym (own_new k) ∙ line_new in
            append_cancel_right (value_text own) (value_text value) newline
            (append_cancel_left (0x20 ∷ 0x3D ∷ 0x20 ∷ []) (value_text own ++ newline) (value_text value ++ newline)
            (append_cancel_left (encoded_key h.text) (after_key s own) (after_key s value) both))
          where
            its : (k : AddsLine profile limit s path own c)
                → path ≡ holder path (mentions_in s) ++ key k.text ∷ []
            its k = whole profile limit s path own c k one

            own_new : (k : AddsLine profile limit s path own c) → c.new ≡ encoded_key k.text ++ after_key s own
            own_new k =
                line_text_is profile limit s path own c (line_keyval profile limit s path own c fine k)
                ∙ ap (λ (l : List (List ℕ)). keys_text (k.text ∷ l) ++ (value_text own ++ (newline_of s).text))
                (none_more profile limit s path own c k one)
                ∙ append_assoc (encoded_key k.text) (0x20 ∷ 0x3D ∷ 0x20 ∷ [])
                (value_text own ++ (newline_of s).text)

-- changes are the same where edits that make one change have one another's place
changes_same : (later earlier : List MadeEdit) (e f : Edit) (d : TextChange)
    → changes_of (later ++ made e d ∷ earlier) ≡ changes_of (later ++ made f d ∷ earlier)
changes_same [] earlier e f d = refl
changes_same (x ∷ later) earlier e f d =
    ap (λ (l : List TextChange). with_change l x.change) (changes_same later earlier e f d)

-- ---- the insert and another key

module _ (profile : Profile) (limit : ℕ) (s : Document) (path : List Part) (value : Value) (c : TextChange)
    (name : List ℕ) (d : TextChange) (fine : IsEditable profile limit s) (h : AddsLine profile limit s path value c)
    (one : first_new s path ≡ path) (k : AddsLine profile limit s (beside path name) value d) where
  abbrev b : List Part
  b = beside path name

  abbrev m : MadeEdit
  m = made (insert path value) c

  abbrev by : MadeEdit
  by = made (insert b value) d

  -- ---- the two lines

  other : first_new s b ≡ b
  other = other_first profile limit s path value c h one name value d k

  holder_is : holder b (mentions_in s) ≡ holder path (mentions_in s)
  holder_is = other_holder profile limit s path value c h one name value d k

  at : c.at ≡ d.at
  at =
      let number : h.number ≡ k.number =
      same_Some h.number k.number (sym h.ends ∙ ap (end_of s) (sym holder_is) ∙ k.ends) in
      at_is profile limit s path value c h
      ∙ ap (λ (n : ℕ). length (text_of (bom_leaves s.bom)) + width (take n s.ended)) number
      ∙ sym (at_is profile limit s b value d k)

  kind : kind_of s path ≡ kind_of s b
  kind = kind_is LastInBody profile limit s path value c h ∙ sym (kind_is LastInBody profile limit s b value d k)

  table : table_of (added_as s path c) ≡ table_of (added_as s b d)
  table =
      table_is profile limit s path value c (line_keys profile limit s path value c h) ∙ sym holder_is
      ∙ sym (table_is profile limit s b value d (line_keys profile limit s b value d k))

  c_is : c.new ≡ encoded_key h.text ++ after_key s value
  c_is = line_new profile limit s path value c fine h one

  d_is : d.new ≡ encoded_key name ++ after_key s value
  d_is =
      line_new profile limit s b value d fine k other
      ∙ ap (λ (t : List ℕ). encoded_key t ++ after_key s value)
      (key_is profile limit s b value d fine k other (holder path (mentions_in s)) name
      (two profile limit s path value c h one name value d k).is)

  -- ---- edits that leave the new key alone

  abbrev IsApart : List MadeEdit → Type 0
  IsApart ms = All (λ e. LeavesAlone e (insert b value)) (seen_of s ms)

  seen_new : (f : Edit) → LeavesAlone f (insert b value) → LeavesAlone f (seen s (insert b value))
  seen_new f = subst (λ (q : List Part). LeavesAlone f (insert q value)) (sym other)

  alone_first : (earlier : List MadeEdit) → IsApart earlier
      → All (λ e. LeavesAlone e (seen s (insert b value))) (seen_of s earlier)
  alone_first earlier =
      All-weaker (λ e. LeavesAlone e (insert b value)) (λ e. LeavesAlone e (seen s (insert b value))) seen_new
      (seen_of s earlier)

  left_new : (f : Edit) → LeavesAlone f (insert b value) → LeavesAlone (seen s (insert b value)) f
  left_new f apart =
      subst (λ (q : List Part). LeavesAlone (insert q value) f) (sym other) (left_back b value f apart)

  beside_first : (earlier : List MadeEdit) → All (λ x. IsBeside x c) (changes_of earlier)
      → All (λ x. IsBeside x d) (changes_of earlier)
  beside_first earlier =
      All-weaker (λ x. IsBeside x c) (λ x. IsBeside x d) (beside_of c d at h.adds k.adds) (changes_of earlier)

  placed_first : (earlier : List MadeEdit)
      → KeepsPlace s (seen_of s earlier) (changes_of earlier) (lines_of s earlier) (insert path value) c
      → KeepsPlace s (seen_of s earlier) (changes_of earlier) (lines_of s earlier) (insert b value) d
  placed_first earlier (order, place) = (
    first_placed (seen_of s earlier) (changes_of earlier) (lines_of s earlier) (added_as s path c) (added_as s b d) at
        kind table order,
    subst (λ (n : ℕ). All (λ e. IsTrue (is_insert e)) (seen_of s earlier)
        ⊎ (LeaveNewline s (changes_of earlier) × (All (LetsCome (text s) (changes_of earlier) n) (changes_of earlier)
        × IsBeforeHeaders (text s) (seen_of s earlier) n))) at place,
  )

  -- ---- the rename after the edits

  -- its change where the line begins at this byte
  abbrev there : ℕ → TextChange
  there start = change_at start (length (encoded_key h.text)) (encoded_key name)

  record IsRenameThere (ms others : List MadeEdit) : Type 0 where
    among : IsAmong c d (changes_of ms) (changes_of others)
    renames : RenamesKey profile limit (document_after s ms) path name (there (moved_by_all among.before c.at))

  module _ (utf8 : IsUtf8 name) (differs : path ≢ b) where
    rename_first : (earlier : List MadeEdit) → AreMade profile limit s (m ∷ earlier) → IsApart earlier
        → IsRenameThere (m ∷ earlier) (by ∷ earlier)
    rename_first earlier (makes, (alone, (beside, (placed, others)))) apart =
        let run : IsRun profile limit s (seen_of s earlier) (changes_of earlier) (lines_of s earlier)
        (document_after s earlier) =
        made_run profile limit s earlier fine others in
        let first : IsAmongFirst (changes_of earlier) c d = put_among (changes_of earlier) c d run.follow at in
        let now : Document = document_after s earlier in
        let moved : TextChange = moved_past (changes_of earlier) c in
        let moved_more : TextChange = moved_past (changes_of earlier) d in
        let (made_now, still) = run.later (insert path value) c makes alone beside placed in
        let (made_more, still_more) =
        run.later (insert b value) d (LastInBody, k) (alone_first earlier apart) (beside_first earlier beside)
        (placed_first earlier placed) in
        let line_now : AddsLine profile limit now path value moved =
        as_of_kind LastInBody profile limit now path value moved
        (still.1 ∙ kind_is LastInBody profile limit s path value c h) made_now in
        let line_more : AddsLine profile limit now b value moved_more =
        as_of_kind LastInBody profile limit now b value moved_more
        (still_more.1 ∙ kind_is LastInBody profile limit s b value d k) made_more in
        let text_is : line_now.text ≡ h.text =
        key_is profile limit now path value moved run.editable line_now (still.0 ∙ one)
        (holder path (mentions_in s)) h.text (whole profile limit s path value c h one) in
        record {
          among = first.among;
          renames = subst (λ (n : ℕ). RenamesKey profile limit (edited_document now (insert path value)) path name
              (there n)) (sym first.start)
              (subst (λ (t : List ℕ). RenamesKey profile limit (edited_document now (insert path value)) path name
              (change_at moved.at (length (encoded_key t)) (encoded_key name))) text_is
              (rename_right_after profile limit now path value moved run.editable line_now (still.0 ∙ one) name utf8
              value moved_more line_more differs));
        }

    few : length (encoded_key h.text) ≤ length c.new
    few =
        omega (arith, ap (λ (t : List ℕ). length t) c_is, length-append (encoded_key h.text) (after_key s value))

    rename_there : (later earlier : List MadeEdit) → AreMade profile limit s (later ++ m ∷ earlier)
        → IsApart (later ++ m ∷ earlier) → IsRenameThere (later ++ m ∷ earlier) (later ++ by ∷ earlier)
    rename_there [] earlier all apart =
        rename_first earlier all
        (All-tail (λ e. LeavesAlone e (insert b value)) (seen s (insert path value)) (seen_of s earlier) apart)
    rename_there (x ∷ later) earlier (makes, (alone, (beside, (placed, others)))) apart =
        let ms : List MadeEdit = later ++ m ∷ earlier in
        let now : Document = document_after s ms in
        let run : IsRun profile limit s (seen_of s ms) (changes_of ms) (lines_of s ms) now =
        made_run profile limit s ms fine others in
        let before : IsRenameThere ms (later ++ by ∷ earlier) =
        rename_there later earlier others
        (All-tail (λ e. LeavesAlone e (insert b value)) (seen s x.edit) (seen_of s ms) apart) in
        let start : ℕ = moved_by_all before.among.before c.at in
        let e : TextChange = moved_past (changes_of ms) x.change in
        let (made_now, as_seen) = run.later x.edit x.change makes alone beside placed in
        let goes : IsAmongMore c d (changes_of ms) (changes_of (later ++ by ∷ earlier)) start x.change =
        goes_among c d (changes_of ms) (changes_of (later ++ by ∷ earlier)) before.among x.change h.adds at run.follow
        beside in
        let next : ℕ = moved_by_all goes.among.before c.at in
        let (side, moves) =
        moved_there start next (length c.new) e (there start) 0 (omega arith) before.renames.some
        (omega (arith, few)) goes.there in
        record {
          among = goes.among;
          renames = subst (λ (n : ℕ). RenamesKey profile limit (edited_document now x.edit) path name (there n))
              (omega (arith, moves))
              (rename_still profile limit s now path name value (line_keys profile limit s path value c h)
              (line_keys profile limit s b value d k) (there start) run.editable before.renames x.edit e x.change makes
              (of_one s (λ f. LeavesAlone f (seen s x.edit)) m later earlier alone)
              (left_new (seen s x.edit)
              (All-head (λ e. LeavesAlone e (insert b value)) (seen s x.edit) (seen_of s ms) apart))
              made_now as_seen side);
        }

    -- ---- the other edits

    at_once : (later earlier : List MadeEdit)
        → LeavesNewline s d ⊎ All (λ e. IsTrue (is_insert e)) (seen_of s (later ++ m ∷ earlier))
        → AreMade profile limit s (later ++ m ∷ earlier) → IsApart (later ++ m ∷ earlier)
        → AreMade profile limit s (later ++ by ∷ earlier)
    at_once [] earlier plain (makes, (alone, (beside, (placed, others)))) apart = (
      (LastInBody, k),
      (
        alone_first earlier
            (All-tail (λ e. LeavesAlone e (insert b value)) (seen s (insert path value)) (seen_of s earlier) apart),
        (beside_first earlier beside, (placed_first earlier placed, others)),
      ),
    )
    at_once (x ∷ later) earlier plain (makes, (alone, (beside, (placed, others)))) apart =
        let ms : List MadeEdit = later ++ m ∷ earlier in
        let rest : IsApart ms =
        All-tail (λ e. LeavesAlone e (insert b value)) (seen s x.edit) (seen_of s ms) apart in
        let among : IsAmong c d (changes_of ms) (changes_of (later ++ by ∷ earlier)) =
        (rename_there later earlier others rest).among in (
          makes,
          (
            each_more s (λ e. LeavesAlone e (seen s x.edit)) m by later earlier
                (λ own. left_new (seen s x.edit)
                (All-head (λ e. LeavesAlone e (insert b value)) (seen s x.edit) (seen_of s ms) apart)) alone,
            (
              changes_more (λ y. IsBeside y x.change) c d (changes_of ms) (changes_of (later ++ by ∷ earlier)) among
                  (beside_more c d at h.adds k.adds x.change) beside,
              (
                placed_more c d at h.adds k.adds s (changes_of ms) (changes_of (later ++ by ∷ earlier)) among path b
                    value value kind table later earlier x.edit x.change (alike plain) placed,
                at_once later earlier (fewer plain) others rest,
              ),
            ),
          ),
        )
      where
        fewer : LeavesNewline s d ⊎ All (λ e. IsTrue (is_insert e)) (seen_of s (x ∷ later ++ m ∷ earlier))
            → LeavesNewline s d ⊎ All (λ e. IsTrue (is_insert e)) (seen_of s (later ++ m ∷ earlier))
        fewer (inl new) = inl new
        fewer (inr all) =
            inr (All-tail (λ e. IsTrue (is_insert e)) (seen s x.edit) (seen_of s (later ++ m ∷ earlier)) all)

        alike : LeavesNewline s d ⊎ All (λ e. IsTrue (is_insert e)) (seen_of s (x ∷ later ++ m ∷ earlier))
            → LeavesNewline s d
            ⊎ (IsTrue (is_insert (seen s x.edit))
            × All (λ e. IsTrue (is_insert e)) (seen_of s (later ++ m ∷ earlier)))
        alike (inl new) = inl new
        alike (inr all) = inr (
          All-head (λ e. IsTrue (is_insert e)) (seen s x.edit) (seen_of s (later ++ m ∷ earlier)) all,
          All-tail (λ e. IsTrue (is_insert e)) (seen s x.edit) (seen_of s (later ++ m ∷ earlier)) all,
        )

    -- ---- the document

    module _ (ms others : List MadeEdit) (it : IsRenameThere ms others) (all : AreMade profile limit s ms)
        (still : AreMade profile limit s others) where
      abbrev now : Document
      now = document_after s ms

      run : IsRun profile limit s (seen_of s ms) (changes_of ms) (lines_of s ms) now
      run = made_run profile limit s ms fine all

      other_run : IsRun profile limit s (seen_of s others) (changes_of others) (lines_of s others)
          (document_after s others)
      other_run = made_run profile limit s others fine still

      -- the text on both sides of the line
      abbrev left : List ℕ
      left = text_to 0 (text s) it.among.before c

      abbrev right : List ℕ
      right = text_after (text s) c it.among.after

      text_now : text now ≡ left ++ ((encoded_key h.text ++ after_key s value) ++ right)
      text_now =
          run.text ∙ ap (text_with 0 (text s)) it.among.is
          ∙ text_parts 0 (text s) it.among.before it.among.after c (subst (Follow 0) it.among.is run.follow)
          ∙ ap (λ (t : List ℕ). left ++ (t ++ right)) c_is

      text_other : text (document_after s others) ≡ left ++ ((encoded_key name ++ after_key s value) ++ right)
      text_other =
          let ends : d.at + d.size ≡ c.at + c.size = omega (arith, at, h.adds, k.adds) in
          other_run.text ∙ ap (text_with 0 (text s)) it.among.other
          ∙ text_parts 0 (text s) it.among.before it.among.after d (subst (Follow 0) it.among.other other_run.follow)
          ∙ ap₂ (λ (n z : ℕ).
          text_with 0 (take n (text s)) it.among.before ++ (d.new ++ text_with z (text s) it.among.after)) (sym at) ends
          ∙ ap (λ (t : List ℕ). left ++ (t ++ right)) d_is

      starts : length left ≡ moved_by_all it.among.before c.at
      starts =
          starts_there (text s) it.among.before it.among.after c
          (let in_text : c.at + c.size ≤ length (text s) =
          within_text profile limit s (insert path value) c fine (LastInBody, h) in omega (arith, in_text))
          (subst (Follow 0) it.among.is run.follow)

      text_then : text (edited_document now (rename path name)) ≡ text (document_after s others)
      text_then =
          change_put now (rename path name) ∙ ap (put (text now)) it.renames.is
          ∙ ap (λ (t : List ℕ). put t (place_of_change (there (moved_by_all it.among.before c.at)))) text_now
          ∙ put_part left [] (encoded_key h.text) (after_key s value) right (encoded_key name)
          (moved_by_all it.among.before c.at) (length (encoded_key h.text)) (omega (arith, starts)) refl
          ∙ sym text_other

      same_document : edited_document now (rename path name) ≡ document_after s others
      same_document =
          one_document profile (edited_document now (rename path name)) (document_after s others)
          (rename_lawful profile limit now path name run.editable it.renames.utf8 it.renames.allowed).reads.valid
          other_run.editable.valid text_then

-- ---- the insert among the edits

pub run_goes_on_renamed_there : RunGoesOnRenamedThere
run_goes_on_renamed_there profile limit s ms path value name before c d after fine were make adds is one utf8 new apart
    plain =
    let all : AreMade profile limit s ms = all_made profile limit s ms were make in
    let same : c.at ≡ d.at = at profile limit s path value c name d fine adds one new in
    let found : IsFound path value ms before c d after =
    found_there profile limit s path value c value d fine (LastInBody, adds) same ms before after all is in
    let here : List MadeEdit = found.later ++ made (insert path value) c ∷ found.earlier in
    let own : found.value ≡ value =
    same_value profile limit s path value c fine adds one found.value
    (of_kind found.value
    (its_own found.later found.earlier found.value (subst (AreMade profile limit s) found.all all))) in
    let here_is : ms ≡ here =
    found.all ∙ ap (λ (v : Value). found.later ++ made (insert path v) c ∷ found.earlier) own in
    let others : List MadeEdit = found.later ++ made (insert (beside path name) value) d ∷ found.earlier in
    let ours : AreMade profile limit s here = subst (AreMade profile limit s) here_is all in
    let clear : All (λ e. LeavesAlone e (insert (beside path name) value)) (seen_of s here) =
    subst (λ (l : List MadeEdit). All (λ e. LeavesAlone e (insert (beside path name) value)) (seen_of s l)) here_is
    apart in
    let differs : path ≢ beside path name =
    λ it. of_one s (λ e. LeavesAlone e (insert (beside path name) value)) (made (insert path value) c) found.later
    found.earlier clear (one ∙ it) in
    let it =
    rename_there profile limit s path value c name d fine adds one new utf8 differs found.later found.earlier ours
    clear in
    let still : AreMade profile limit s others =
    at_once profile limit s path value c name d fine adds one new utf8 differs found.later found.earlier
    (subst (λ (l : List MadeEdit). LeavesNewline s d ⊎ All (λ e. IsTrue (is_insert e)) (seen_of s l)) here_is plain)
    ours clear in
    let put_there : TextChange =
    there profile limit s path value c name d fine adds one new (moved_by_all it.among.before c.at) in
    record {
      others = others;
      exchanged = record { later = found.later; earlier = found.earlier; all = here_is; other = refl };
      first = other profile limit s path value c name d fine adds one new;
      at = same;
      kind = kind profile limit s path value c name d fine adds one new;
      table = table profile limit s path value c name d fine adds one new;
      changes = changes_same found.later found.earlier (insert (beside path name) value) (insert path value) d
          ∙ found.changes;
      there = put_there;
      renames = subst (λ (l : List MadeEdit). RenamesKey profile limit (document_after s l) path name put_there)
          (sym here_is) it.renames;
      same = ap (λ (l : List MadeEdit). edited_document (document_after s l) (rename path name)) here_is
          ∙ same_document profile limit s path value c name d fine adds one new utf8 differs here others it ours still;
      still = made_at_once profile limit s others still;
    }
  where
    -- an insert there adds its line to a table of the same kind
    of_kind : (w : Value) → MakesChange profile limit s (insert path w) c → AddsLine profile limit s path w c
    of_kind w = as_of_kind LastInBody profile limit s path w c (kind_is LastInBody profile limit s path value c adds)

    its_own : (later earlier : List MadeEdit) (w : Value)
        → AreMade profile limit s (later ++ made (insert path w) c ∷ earlier)
        → MakesChange profile limit s (insert path w) c
    its_own [] earlier w h = h.0
    its_own (x ∷ later) earlier w h = its_own later earlier w h.1.1.1.1
