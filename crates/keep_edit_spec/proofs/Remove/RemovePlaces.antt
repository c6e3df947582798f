-- Where `remove` cuts, where it is not refused: at a line, in brackets, or at a header with its body.
--
-- The edit's definition has four searches, and the first that finds something makes the change: a line is cleared up to
-- its comment, a line is dropped, a header is dropped with its body, or an entry is taken out in brackets. There is one
-- lemma for each search (`by_comment`, `by_line`, `by_section`, `by_value`). Each applies the law of its cut where its
-- search finds something, and else goes on to the next search. A line that is dropped has to be without a comment: the
-- first search would have found it otherwise (`none_lines`, `no_comment`). That there is a change at all is the law of
-- `remove` (`remove_lawful`).
--
-- Theorem: `removed`.
use Rattle.std.proofs.Common.{◌≡◌, ℕ, suc, Bool, true, false, List, [], ◌∷◌, ◌++◌, map, drop, refl, sym, ap, subst, ◌∙◌}
use Rattle.std.proofs.Common.{Option, Some, None, ◌⊎◌, inl, inr}
use Rattle.std.proofs.lemmas.Option.{same_Some}
use Rattle.keep_types.specs.declared.leaf.Profile.{Profile}
use Rattle.keep_syntax.specs.Tree.{Written, blank, Line, Ended, Document, bom_leaves, ended_leaves, text_of, text}
use Rattle.keep_syntax.specs.Grammar.{IsDocument}
use Rattle.keep_syntax.specs.Numbered as syntax
use Rattle.keep_path.specs.Path.{Part}
use Rattle.keep_meaning.specs.Marks.{Reading, start}
use Rattle.keep_meaning.specs.Meaning.{after_line, reading_after_lines, line_of, lines, mentions_in}
use Rattle.keep_edit_spec.specs.Changed.{Changed, IsChangeOf, framed_change, within, or_else}
use Rattle.keep_edit_spec.specs.Values.{removal}
use Rattle.keep_edit_spec.specs.Lines.{Page, page_text, content_text, with_page, in_lines, last_line, begins}
use Rattle.keep_edit_spec.specs.Lines.{body_length}
use Rattle.keep_edit_spec.specs.Edits.{remove, change, nested, is_own, clear_line, without_lines}
use Rattle.keep_edit_spec.specs.Laws.{IsEditable, IsLawfulEdit}
use Rattle.keep_edit_spec.specs.Refusals.{refusal}
use Rattle.keep_edit_spec.proofs.Common.Runs.{Rules}
use Rattle.keep_edit_spec.proofs.Common.Texts.{EachIs}
use Rattle.keep_edit_spec.proofs.Common.LineTexts.{change-is}
use Rattle.keep_edit_spec.proofs.Common.Marks.{rules_of_document}
use Rattle.keep_edit_spec.proofs.Common.DoneAtValue.{EachOf}
use Rattle.keep_edit_spec.proofs.EditLaws.{remove_lawful}
use Rattle.keep_edit_spec.proofs.Common.FoundValue.{IsFoundIn, Valid_document, found_nested}
use Rattle.keep_edit_spec.proofs.Remove.RemovePlace.{IsEntryPlaced, entry_placed}
use Rattle.keep_edit_spec.proofs.Remove.RemoveLinePlace.{head_line, IsCleared, cleared_lines, cleared_placed}
use Rattle.keep_edit_spec.proofs.Remove.RemoveLinePlace.{dropped_placed, IsLinePlaced, page_line, without}
use Rattle.keep_edit_spec.proofs.Remove.RemoveSectionPlace.{IsSectionPlaced, section_placed}
use Rattle.keep_edit_spec.proofs.Insert.PutIn.{within_none}

-- what is cut in brackets is taken out inside the value of a line
abbrev pub IsPlaced : List Part → Document → Changed Document → Type 0
IsPlaced path s c =
    IsLinePlaced path s c ⊎ ((IsEntryPlaced path s c × (nested removal path s ≡ Some c)) ⊎ IsSectionPlaced path s c)

-- ---- where no line is cleared, the line that is dropped has no comment

none_first : {A : Type 0} (o p : Option A) → or_else o p ≡ None → o ≡ None
none_first None p e = refl
none_first (Some c) p e = absurd cc

none_second : {A : Type 0} (o p : Option A) → or_else o p ≡ None → p ≡ None
none_second None p e = e
none_second (Some c) p e = absurd cc

none_lines : (f : Reading → Line → Option (Changed Line)) (r : Reading) (pre rest : List Ended) (last : Line)
    → in_lines f r (pre ++ rest) last ≡ None → f (reading_after_lines r (map line_of pre)) (head_line rest last) ≡ None
none_lines f r [] [] last e = within_none (λ l. record { ended = []; last = l }) [] [] (f r last) e
none_lines f r [] (x ∷ es) last e =
    within_none (λ l. record { ended = record { line = l; newline = x.newline } ∷ es; last = last }) []
    (x.newline.text ++ page_text (record { ended = es; last = last })) (f r x.line) (none_first _ _ e)
none_lines f r (x ∷ pre) rest last e =
    none_lines f (after_line r x.line) pre rest last
    (within_none (λ b. record { ended = x ∷ b.ended; last = b.last }) (text_of (ended_leaves x)) []
    (in_lines f (after_line r x.line) (pre ++ rest) last) (none_second _ _ e))

abbrev clear_by : Line → Option Written → Bool → Option (Changed Line)
clear_by l o b = elim o [
  | None ↦ None
  | Some c ↦ elim b [
    | false ↦ None
    | true ↦ Some (record {
      to = record { before = l.before; content = blank; after = []; comment = Some c };
      before = text_of l.before;
      old = content_text l.content ++ text_of l.after;
      new = [];
      after = c.text;
    })
  ]
]

no_comment : (path : List Part) (r : Reading) (l : Line) → is_own path r l.content ≡ true → clear_line path r l ≡ None
    → l.comment ≡ None
no_comment path r l own e = by l.comment refl (is_own path r l.content) own e
  where
    by : (o : Option Written) → l.comment ≡ o → (b : Bool) → b ≡ true → clear_by l o b ≡ None → l.comment ≡ None
    by None k b t e = k
    by (Some c) k false t e = absurd cc
    by (Some c) k true t e = absurd cc

-- ---- by the kind of the change

module _ (profile : Profile) (path : List Part) (s : Document) (valid : IsDocument profile s)
    (rules : Rules (mentions_in s)) (c : Changed Document) (cut : IsChangeOf text s c) where
  by_value : nested removal path s ≡ Some c → IsPlaced path s c
  by_value e =
      let h : IsFoundIn removal (Valid_document s) 0 path (mentions_in s) (syntax.values s) c =
      subst (λ (o : Option (Changed Document)).
      EachOf (IsFoundIn removal (Valid_document s) 0 path (mentions_in s) (syntax.values s)) o) e
      (found_nested removal path s) in
      inr (inl (entry_placed profile path s valid rules c cut h, e))

  by_section : (o : Option ℕ) → last_line (begins path) start (lines s) ≡ o
      → or_else (elim o [ None ↦ None | Some i ↦ without_lines s i (suc (body_length (drop (suc i) (lines s)))) ])
      (nested removal path s) ≡ Some c → IsPlaced path s c
  by_section None k e = by_value e
  by_section (Some i) k e = inr (inr (section_placed profile path s i c valid k e))

  by_line : in_lines (clear_line path) start s.ended s.last ≡ None → (o : Option ℕ)
      → last_line (λ r l. is_own path r l.content) start (lines s) ≡ o
      → or_else (elim o [ None ↦ None | Some i ↦ without_lines s i 1 ])
      (or_else (elim (last_line (begins path) start (lines s)) [
        | None ↦ None
        | Some i ↦
            without_lines s i (suc (body_length (drop (suc i) (lines s))))
      ]) (nested removal path s)) ≡ Some c
      → IsPlaced path s c
  by_line none None k e = by_section (last_line (begins path) start (lines s)) refl e
  by_line none (Some i) k e =
      let h = page_line (λ r l. is_own path r l.content) start s.ended s.last i k in
      let plain = no_comment path (reading_after_lines start (map line_of h.pre)) (head_line h.rest s.last) h.passes
      (none_lines (clear_line path) start h.pre h.rest s.last
      (ap (λ (es : List Ended). in_lines (clear_line path) start es s.last) (sym h.was) ∙ none)) in
      inl (dropped_placed profile path s valid rules c cut h.pre h.rest h.was h.passes plain
      (without s i 1 h.pre h.rest c h.was h.number e))

  by_comment : (o : Option (Changed Page)) → in_lines (clear_line path) start s.ended s.last ≡ o
      → or_else (within (with_page s) (text_of (bom_leaves s.bom)) [] o)
      (or_else (elim (last_line (λ r l. is_own path r l.content) start (lines s)) [
        | None ↦ None
        | Some i ↦
            without_lines s i 1
      ])
      (or_else (elim (last_line (begins path) start (lines s)) [
        | None ↦ None
        | Some i ↦
            without_lines s i (suc (body_length (drop (suc i) (lines s))))
      ]) (nested removal path s))) ≡ Some c
      → IsPlaced path s c
  by_comment None k e = by_line k (last_line (λ r l. is_own path r l.content) start (lines s)) refl e
  by_comment (Some p) k e =
      let h : IsCleared path start s.ended s.last p =
      subst (λ (o : Option (Changed Page)). EachOf (IsCleared path start s.ended s.last) o) k
      (cleared_lines path start s.ended s.last) in
      inl (cleared_placed profile path s valid rules c cut p h
      (same_Some (framed_change (with_page s) (text_of (bom_leaves s.bom)) [] p) c e))

  placed : change s (remove path) ≡ Some c → IsPlaced path s c
  placed e = by_comment (in_lines (clear_line path) start s.ended s.last) refl e

-- Where `remove` is not refused, it makes a change, and this is where.
pub record IsRemoved (profile : Profile) (limit : ℕ) (path : List Part) (s : Document) : Type 0 where
  pub lawful : IsLawfulEdit profile limit s (remove path)
  pub cut : IsChangeOf text s lawful.changed
  pub placed : IsPlaced path s lawful.changed

pub removed : (profile : Profile) (limit : ℕ) (path : List Part) (s : Document) → IsEditable profile limit s
    → refusal profile limit s (remove path) ≡ None → IsRemoved profile limit path s
removed profile limit path s editable allowed =
    let law : IsLawfulEdit profile limit s (remove path) = remove_lawful profile limit s path editable allowed in
    let cut : IsChangeOf text s law.changed =
    subst (λ (o : Option (Changed Document)). EachIs text s o) law.is (change-is s (remove path)) in
    record {
      lawful = law;
      cut = cut;
      placed = placed profile path s editable.valid (rules_of_document s editable.obeys) law.changed cut law.is;
    }
