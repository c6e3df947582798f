-- A run of edits of several kinds, with what comes at the end of the text after all others, and one edit more.
--
-- A header, or an insert below one, comes at the end (TailEnds). Any other edit is made before that, as if it had been
-- made first: it makes its change among the other edits (`base_adds`, `base_puts`, `base_takes`) and is lifted past
-- what is at the end (LiftsPlain, LiftsOthers). Its change takes no last byte and leaves the first newline, so it stays
-- so that all do (`clear_with`).
--
-- Theorem: `run_longer`.
use Rattle.std.proofs.Common.{[], ◌≡◌, ◌∙◌, ◌<◌, ◌+◌, ◌∷◌, ℕ, suc, All, List, length, arith, refl, sym, ap, ap₂}
use Rattle.std.proofs.Common.{append-nil, cond, false, get_or, inl, inr, map, subst, true}
use Rattle.std.specs.Prelude.{◌⊎◌, ◌&&◌, ◌==◌, Bool, Option, Some, nat_lt}
use Rattle.std.specs.List.{count_by, list_any}
use Rattle.std.proofs.lemmas.Bool.{and_left, and_right, ne_eqb, or_parts}
use Rattle.std.proofs.lemmas.List.Elements.{All-cons, All-nil}
use Rattle.std.proofs.lemmas.List.Folds.{list_any_none}
use Rattle.keep_types.specs.declared.leaf.Profile.{Profile}
use Rattle.keep_syntax.specs.Tree.{Document, Value}
use Rattle.keep_path.specs.Path.{Part, beside, key}
use Rattle.keep_edit_spec.specs.Edits as law
use Rattle.keep_edit_spec.specs.InsertKinds.{AddsAs}
use Rattle.keep_edit_spec.specs.Runs as runs
use Rattle.keep_edit_spec.specs.Runs.{MakesChange, takes_up_to}
use Rattle.keep_edit_spec.specs.TextChanges.{TextChange, with_change}
use Rattle.keep_edit_spec.specs.declared.line_kind.LineKind.{LineKind}
use Rattle.keep_edit_spec.specs.declared.line_kind.LineKind.TheVariants.{LastInBody, OfDotted, WithHeader}
use Rattle.keep_edit_spec.proofs.Shared.{all_with}
use Rattle.keep_edit_plan.specs.Reading.{IsAccepted, ProfiledText, limit}
use Rattle.keep_edit_plan.specs.TextEdits.{change_of}
use Rattle.keep_edit_plan.specs.declared.edit.Edit.{Edit}
use Rattle.keep_edit_plan.specs.declared.text_edit.TextEdit.{TextEdit}
use Rattle.keep_edit_runs.specs.AddedLines.{IsCountedMore, IsHeaderKnown}
use Rattle.keep_edit_runs.specs.Again.{IsAgainHere, IsPutAgain, outlines_of}
use Rattle.keep_edit_runs.specs.KindsRun.{AddsInPlace, AddsOne, DoesOne, GoesOn, IsRunOn, LetsAgainBefore}
use Rattle.keep_edit_runs.specs.KindsRun.{LetsChange, PutsOne, TakesOne}
use Rattle.keep_edit_runs.specs.Lists.{IsEdit}
use Rattle.keep_edit_runs.specs.Newlines.{LeavesHere}
use Rattle.keep_edit_runs.specs.Runs.{AddsLineAlone, IsAddedInOrder, LeavesAlone, MakesInRun, outlined, plain}
use Rattle.keep_edit_runs.specs.SeenHeaders.{HasHeader, HasTableOf}
use Rattle.keep_edit_runs.specs.declared.added_lines.AddedLines.{AddedLines}
use Rattle.keep_edit_runs.specs.declared.again.Again.{Again}
use Rattle.keep_edit_runs.specs.declared.again.Again.TheVariants as again
use Rattle.keep_edit_runs.specs.declared.kinds_run.KindsRun.{KindsRun}
use Rattle.keep_edit_runs.specs.declared.outline.Outline.{Outline}
use Rattle.keep_edit_runs.specs.declared.seen_headers.SeenHeaders.{SeenHeaders}
use Rattle.keep_edit_runs.specs.declared.tail.Tail.{Tail}
use Rattle.keep_edit_runs.proofs.AheadSteps.{each_ahead}
use Rattle.keep_edit_runs.proofs.InPlaceSteps.{each_before}
use Rattle.keep_edit_runs.proofs.LiftsOthers.{lifts_again, lifts_ahead, lifts_before, lifts_following, lifts_in_place}
use Rattle.keep_edit_runs.proofs.LiftsPlain.{lifts_behind, lifts_taken}
use Rattle.keep_edit_runs.proofs.RunSteps.{in_middle}
use Rattle.keep_edit_runs.proofs.SetAgainSteps.{each_replaced}
use Rattle.keep_edit_runs.proofs.TailBelow.{puts_below}
use Rattle.keep_edit_runs.proofs.TailEnds.{appends_one}
use Rattle.keep_edit_runs.proofs.TailLaws.{base_adds, base_in_place, base_puts, base_takes, more_before}
use Rattle.keep_edit_runs.proofs.TailRuns.{AreMadeIn, IsClear, IsEndClear, Lifts}

-- ---- no change takes the last byte

-- a change that ends elsewhere, or takes nothing
takes_not : (n : ℕ) (c : TextChange) → (c.size ≡ 0) ⊎ (c.at + c.size < n) → takes_up_to n c ≡ false
takes_not n c (inl none) =
    and_left (nat_lt 0 c.size) (c.at + c.size == n) (ap (λ (k : ℕ). nat_lt 0 k) none)
takes_not n c (inr before) =
    and_right (nat_lt 0 c.size) (c.at + c.size == n) (ne_eqb (c.at + c.size) n (λ e. omega (arith, e, before)))

each_not : (test : TextChange → Bool) (cs : List TextChange) → list_any test cs ≡ false
    → All (λ c. test c ≡ false) cs
each_not test [] none = All-nil (λ c. test c ≡ false)
each_not test (c ∷ cs) none =
    let parts = or_parts (test c) (list_any test cs) none in
    All-cons (λ d. test d ≡ false) c cs parts.0 (each_not test cs parts.1)

-- the line of an insert takes nothing
line_takes_none : (kind : LineKind) (profile : Profile) (s : Document) (path : List Part) (value : Value)
    (c : TextChange) → AddsAs kind profile limit s path value c → c.size ≡ 0
line_takes_none LastInBody profile s path value c h = h.adds
line_takes_none OfDotted profile s path value c h = h.adds
line_takes_none WithHeader profile s path value c h = h.adds

insert_takes_none : (profile : Profile) (s : Document) (e a : law.Edit) (c : TextChange) (line : Option LineKind)
    → MakesInRun profile s e a c line → runs.is_insert (plain a) ≡ true → c.size ≡ 0
insert_takes_none profile s e a c line (inl (same, makes, of)) insert =
    by e (sym (ap (λ (f : law.Edit). runs.is_insert (plain f)) same) ∙ insert) makes
  where
    by : (f : law.Edit) → runs.is_insert (plain (runs.seen s f)) ≡ true → MakesChange profile limit s f c → c.size ≡ 0
    by (law.insert path value) is (kind, adds) = line_takes_none kind profile s path value c adds
    by (law.set path value) is makes = absurd cc
    by (law.rename path name) is makes = absurd cc
    by (law.remove path) is makes = absurd cc
    by (law.append_table keys) is makes = absurd cc
    by (law.append_element keys) is makes = absurd cc
insert_takes_none profile s e a c line (inr (holder, value, is, sets)) insert =
    let no : false ≡ true = sym (ap (λ (f : law.Edit). runs.is_insert (plain f)) is) ∙ insert in
    absurd cc

-- With one change more all leave the first newline, and none takes the last byte.
clear_with : (now : ProfiledText) (old new : List TextChange) (c : TextChange)
    → ((P : TextChange → Type 0) → All P old → P c → All P new)
    → IsEndClear now old → LeavesHere now c → takes_up_to (length now.text) c ≡ false → IsEndClear now new
clear_with now old new c each h leaves not =
    let takes_last : TextChange → Bool = takes_up_to (length now.text) in
    record {
      leave = each (LeavesHere now) h.leave leaves;
      clear = list_any_none takes_last new
          (each (λ d. takes_last d ≡ false) (each_not takes_last old h.clear) not);
    }

-- a header is known as before, where lines behind headers are counted
known_too : (old new : AddedLines) → new.headers ≡ old.headers → (f : law.Edit) → IsHeaderKnown old f
    → IsHeaderKnown new f
known_too old new same (law.append_table keys) h =
    subst (λ (headers : SeenHeaders). HasHeader headers (map key keys)) (sym same) h
known_too old new same (law.append_element keys) h =
    subst (λ (headers : SeenHeaders). HasHeader headers (map key keys)) (sym same) h
known_too old new same (law.set p v) h = tt
known_too old new same (law.insert p v) h = tt
known_too old new same (law.rename p name) h = tt
known_too old new same (law.remove p) h = tt

-- ---- an edit before what is at the end

module _ (edits : List Edit) (first number : ℕ) (now : ProfiledText) (old new : KindsRun)
    (so_far : AreMadeIn edits first number now old) (run : IsRunOn now old) (lt : number < length edits) (x : Edit)
    (here : get_or edits number x ≡ x) where
  same_end : new.tail ≡ old.tail → old.tail.blocks.items ≡ [] → new.tail.blocks.items ≡ []
  same_end same none = ap (λ (t : Tail). t.blocks.items) same ∙ none

  -- it makes its own change
  module _ (adds : AddsOne now old x new) where
    abbrev its : law.Edit
    its = outlined adds.outline

    follows_none : IsAccepted now → (t : TextEdit) → AddsLineAlone now x t → (change_of t).size ≡ 0
    follows_none (s, read) t h = let (v, is) = h.accepted in (h.adds s read v is).adds

    abbrev c : TextChange
    c = change_of adds.change

    its_takes_not : IsAccepted now → (runs.is_insert its ≡ false → adds.change.place.end < length now.text)
        → takes_up_to (length now.text) c ≡ false
    its_takes_not (s, read) ends = by (runs.is_insert its) refl
      where
        by : (b : Bool) → runs.is_insert its ≡ b → takes_up_to (length now.text) c ≡ false
        by true is =
            takes_not (length now.text) c
            (inl (insert_takes_none now.profile s adds.makes.edit (adds.makes.in_run s) c adds.line
            (adds.makes.makes s read) (ap (λ (f : law.Edit). runs.is_insert f) (adds.makes.outline_is s read) ∙ is)))
        by false is =
            takes_not (length now.text) c (inr (omega (arith, ends is, adds.makes.within.ordered)))

    adds_clear : IsAccepted now → IsClear now new
    adds_clear accepted = by (so_far.clear accepted) adds.lets adds.added.1.1
      where
        in_order : IsEndClear now old.so_far.changes → LeavesHere now c
            → takes_up_to (length now.text) c ≡ false
            → IsAddedInOrder now x old.lines old.so_far.changes adds.outline c adds.line adds.added.0 new.lines
            new.so_far.changes
            → IsEndClear now new.so_far.changes
        in_order clear leaves not (inl behind) =
            subst (IsEndClear now) (sym behind.changes_are)
            (clear_with now old.so_far.changes (with_change old.so_far.changes c) c
            (λ P all its. all_with P old.so_far.changes c all its) clear leaves not)
        in_order clear leaves not (inr (sure, inl ahead)) =
            clear_with now old.so_far.changes new.so_far.changes c
            (λ P all its. each_ahead P old.so_far.changes new.so_far.changes c ahead.put all its) clear leaves not
        in_order clear leaves not (inr (sure, inr (inr before))) =
            clear_with now old.so_far.changes new.so_far.changes c
            (λ P all its. each_before P old.so_far.changes new.so_far.changes c before.put all its) clear leaves not
        in_order clear leaves not (inr (sure, inr (inl follows))) =
            let d : TextChange = change_of follows.line in
            subst (IsEndClear now) (sym follows.changes_are)
            (clear_with now old.so_far.changes (with_change old.so_far.changes d) d
            (λ P all its. all_with P old.so_far.changes d all its) clear follows.leaves
            (takes_not (length now.text) d (inl (follows_none accepted follows.line follows.alone))))

        by : IsClear now old → LetsChange (LeavesHere now) old.tail.blocks.items (length now.text) its adds.change
            → IsAddedInOrder now x old.lines old.so_far.changes adds.outline c adds.line adds.added.0 new.lines
            new.so_far.changes
            → IsClear now new
        by (inl none) lets added = inl (same_end adds.tail none)
        by (inr clear) (inl none) added = inl (same_end adds.tail none)
        by (inr clear) (inr (leaves, ends)) added =
            inr (in_order clear leaves (its_takes_not accepted ends) added)

    lifts : Lifts edits first number now old x
    lifts = by adds.added.0 adds.added.1.0 adds.added.1.1
      where
        by : (b : Bool) → (b ≡ true → old.gone.arrays.items ≡ [])
            → IsAddedInOrder now x old.lines old.so_far.changes adds.outline c adds.line b new.lines
            new.so_far.changes
            → Lifts edits first number now old x
        by b empty (inl behind) = lifts_behind edits first number now old new x adds behind
        by b empty (inr (sure, inl ahead)) = lifts_ahead edits first number now old new x (empty sure) adds ahead
        by b empty (inr (sure, inr (inl follows))) =
            lifts_following edits first number now old new x (empty sure) adds follows
        by b empty (inr (sure, inr (inr before))) =
            lifts_before edits first number now old new x (empty sure) adds before

    headers_stay : (f : law.Edit) → IsHeaderKnown old.lines f → IsHeaderKnown new.lines f
    headers_stay = by adds.added.0 adds.added.1.1
      where
        by : (b : Bool) → IsAddedInOrder now x old.lines old.so_far.changes adds.outline c adds.line b new.lines
            new.so_far.changes
            → (f : law.Edit) → IsHeaderKnown old.lines f → IsHeaderKnown new.lines f
        by b (inl behind) = behind.kept.headers
        by b (inr (sure, inl ahead)) = ahead.kept.headers
        by b (inr (sure, inr (inr before))) = before.kept.headers
        by b (inr (sure, inr (inl follows))) =
            known_too old.lines new.lines (ap (λ (lines : AddedLines). lines.headers) follows.kept.rest)

    tables_stay : (q : List Part) → HasTableOf old.lines.headers q → HasTableOf new.lines.headers q
    tables_stay = by adds.added.0 adds.added.1.1
      where
        by : (b : Bool) → IsAddedInOrder now x old.lines old.so_far.changes adds.outline c adds.line b new.lines
            new.so_far.changes
            → (q : List Part) → HasTableOf old.lines.headers q → HasTableOf new.lines.headers q
        by b (inl behind) = behind.kept.tables
        by b (inr (sure, inl ahead)) = ahead.kept.tables
        by b (inr (sure, inr (inr before))) = before.kept.tables
        by b (inr (sure, inr (inl follows))) = λ q has.
            subst (λ (lines : AddedLines). HasTableOf lines.headers q) (sym follows.kept.rest) has

    no_header_more : new.lines.appended ≡ 0
    no_header_more = by adds.added.0 adds.added.1.1
      where
        counted : IsCountedMore old.lines its c.at adds.line new.lines → new.lines.appended ≡ 0
        counted more =
            let none : count_by runs.is_header (its ∷ []) ≡ 0 = ap (λ (b : Bool). 0 + cond b 1 0) adds.other in
            omega (arith, more.appended, none, so_far.no_headers)

        by : (b : Bool) → IsAddedInOrder now x old.lines old.so_far.changes adds.outline c adds.line b new.lines
            new.so_far.changes
            → new.lines.appended ≡ 0
        by b (inl behind) = counted behind.kept.counts
        by b (inr (sure, inl ahead)) = counted ahead.kept.counts
        by b (inr (sure, inr (inr before))) = counted before.kept.counts
        by b (inr (sure, inr (inl follows))) =
            ap (λ (lines : AddedLines). lines.appended) follows.kept.rest ∙ so_far.no_headers

    pub goes_by_change : AreMadeIn edits first (suc number) now new
    goes_by_change =
        more_before edits first number now old new so_far lt x x here adds.makes.edit adds.makes.is lifts
        (base_adds edits first number now old new so_far x adds) adds.tail (adds.outline ∷ []) adds.outlines
        (inr (All-cons (λ o. All (λ y. LeavesAlone y o) old.tail.outlines.items) adds.outline [] adds.alone.tail
        (All-nil (λ (o : Outline). All (λ y. LeavesAlone y o) old.tail.outlines.items))))
        headers_stay tables_stay no_header_more adds_clear

  -- it comes in the place of what another takes
  module _ (adds : AddsInPlace now old x new) where
    abbrev placed : TextChange
    placed = change_of adds.change

    placed_clear : IsAccepted now → IsClear now new
    placed_clear (s, read) = elim (so_far.clear (s, read)) [
      | inl none ↦ inl (same_end adds.tail none)
      | inr clear ↦ inr
          (subst (IsEndClear now) (sym adds.added.changes_are)
          (clear_with now old.so_far.changes (with_change old.so_far.changes placed) placed
          (λ P all its. all_with P old.so_far.changes placed all its) clear adds.leaves
          (takes_not (length now.text) placed
          (inl (insert_takes_none now.profile s adds.makes.edit (adds.makes.in_run s) placed (Some LastInBody)
          (adds.makes.makes s read)
          (ap (λ (f : law.Edit). runs.is_insert f) (adds.makes.outline_is s read ∙ adds.is)))))))
    ]

    pub goes_in_place : AreMadeIn edits first (suc number) now new
    goes_in_place =
        let kept = adds.added.kept in
        let none : count_by runs.is_header (outlined adds.outline ∷ []) ≡ 0 =
        ap (λ (f : law.Edit). count_by runs.is_header (f ∷ [])) adds.is in
        more_before edits first number now old new so_far lt x x here adds.makes.edit adds.makes.is
        (lifts_in_place edits first number now old new x adds)
        (base_in_place edits first number now old new so_far x adds) adds.tail (adds.outline ∷ []) adds.outlines
        (inr (All-cons (λ o. All (λ y. LeavesAlone y o) old.tail.outlines.items) adds.outline [] adds.alone.tail
        (All-nil (λ (o : Outline). All (λ y. LeavesAlone y o) old.tail.outlines.items))))
        kept.headers kept.tables (omega (arith, kept.counts.appended, none, so_far.no_headers)) placed_clear

  -- it does again what another did
  module _ (puts : PutsOne now old x new) where
    again_clear : IsAccepted now → IsClear now new
    again_clear accepted = by (so_far.clear accepted) puts.again puts.does.before puts.does.put
      where
        by : IsClear now old → (a : Again) → LetsAgainBefore (LeavesHere now) old.tail.blocks.items a
            → IsPutAgain a old.so_far.changes new.so_far.changes → IsClear now new
        by (inl none) a lets put = inl (same_end puts.does.tail none)
        by (inr clear) (again.Value t) (inl none) put = inl (same_end puts.does.tail none)
        by (inr clear) (again.Value t) (inr leaves) put =
            let c : TextChange = change_of t in
            let n : ℕ = length now.text in
            let was : takes_up_to n put.gone ≡ false =
            in_middle (λ d. takes_up_to n d ≡ false) put.before put.after put.gone
            (subst (All (λ d. takes_up_to n d ≡ false)) put.was
            (each_not (takes_up_to n) old.so_far.changes clear.clear)) in
            inr (clear_with now old.so_far.changes new.so_far.changes c
            (λ P all its. each_replaced P old.so_far.changes new.so_far.changes c put all its) clear leaves
            (ap₂ (λ (k m : ℕ). nat_lt 0 m && (k + m == n)) (sym put.at) (sym put.size) ∙ was))
        by (inr clear) (again.Key o t) none put = inl (same_end puts.does.tail none)
        by (inr clear) (again.Line k was t) none put = inl (same_end puts.does.tail none)
        by (inr clear) (again.LineKey o k was t) none put = inl (same_end puts.does.tail none)

    -- what others see anew of it is a rename or an insert, where nothing is at the end
    again_apart : (a : Again) → LetsAgainBefore (LeavesHere now) old.tail.blocks.items a
        → (old.tail.blocks.items ≡ [])
        ⊎ All (λ o. All (λ y. LeavesAlone y o) old.tail.outlines.items) (outlines_of a)
    again_apart (again.Value t) lets =
        inr (All-nil (λ (o : Outline). All (λ y. LeavesAlone y o) old.tail.outlines.items))
    again_apart (again.Key o t) none = inl none
    again_apart (again.Line k was t) none = inl none
    again_apart (again.LineKey o k was t) none = inl none

    again_given : (a : Again) → IsAgainHere now x old.so_far.outlines.items old.so_far.changes a
        → (e : law.Edit) × IsEdit x e
    again_given (again.Value t) is = (is.edit, is.is)
    again_given (again.Key o t) is = (law.rename (beside is.path is.name) is.more, is.is)
    again_given (again.Line k was t) is = (law.set is.path is.more, is.is)
    again_given (again.LineKey o k was t) is = (law.rename is.path is.name, is.is)

    pub goes_again : AreMadeIn edits first (suc number) now new
    goes_again =
        let (e, given) = again_given puts.again puts.is in
        more_before edits first number now old new so_far lt x x here e given
        (lifts_again edits first number now old new x run.seen.edits puts)
        (base_puts edits first number now old new so_far x run.seen.edits puts) puts.does.tail (outlines_of puts.again)
        puts.does.outlines (again_apart puts.again puts.does.before)
        (λ f known. subst (λ (lines : AddedLines). IsHeaderKnown lines f) (sym puts.does.lines) known)
        (λ q has. subst (λ (lines : AddedLines). HasTableOf lines.headers q) (sym puts.does.lines) has)
        (ap (λ (lines : AddedLines). lines.appended) puts.does.lines ∙ so_far.no_headers) again_clear

  -- it removes an element
  module _ (takes : TakesOne now old x new) where
    abbrev taken : TextChange
    taken = change_of takes.takes.change

    takes_clear : IsAccepted now → IsClear now new
    takes_clear accepted = by (so_far.clear accepted) takes.lets
      where
        by : IsClear now old
            → LetsChange (LeavesHere now) old.tail.blocks.items (length now.text)
            (law.remove takes.takes.removes.header.path) takes.takes.change
            → IsClear now new
        by (inl none) lets = inl (same_end takes.tail none)
        by (inr clear) (inl none) = inl (same_end takes.tail none)
        by (inr clear) (inr (leaves, ends)) =
            inr (subst (IsEndClear now) (sym takes.takes.changes)
            (clear_with now old.so_far.changes (with_change old.so_far.changes taken) taken
            (λ P all its. all_with P old.so_far.changes taken all its) clear leaves
            (takes_not (length now.text) taken
            (inr (omega (arith, ends refl, takes.takes.removes.header.within.ordered))))))

    pub goes_by_element : AreMadeIn edits first (suc number) now new
    goes_by_element =
        more_before edits first number now old new so_far lt x x here (law.remove takes.takes.removes.header.path)
        takes.takes.removes.header.is (lifts_taken edits first number now old new x takes)
        (base_takes edits first number now old new so_far x takes) takes.tail []
        (takes.outlines ∙ sym (append-nil old.so_far.outlines.items))
        (inr (All-nil (λ (o : Outline). All (λ y. LeavesAlone y o) old.tail.outlines.items)))
        (λ f known. subst (λ (lines : AddedLines). IsHeaderKnown lines f) (sym takes.lines) known)
        (λ q has. subst (λ (lines : AddedLines). HasTableOf lines.headers q) (sym takes.lines) has)
        (ap (λ (lines : AddedLines). lines.appended) takes.lines ∙ so_far.no_headers) takes_clear

-- ---- in all

pub run_longer : (edits : List Edit) (first number : ℕ) (now : ProfiledText) (old new : KindsRun)
    → AreMadeIn edits first number now old → IsRunOn now old → number < length edits
    → GoesOn now old edits number new → AreMadeIn edits first (suc number) now new
run_longer edits first number now old new so_far run lt h = by h.by
  where
    by : DoesOne now old h.edit new → AreMadeIn edits first (suc number) now new
    by (inl (inl adds)) = goes_by_change edits first number now old new so_far run lt h.edit h.here adds
    by (inl (inr (inl appends))) =
        appends_one edits first number now old new h.edit h.edit lt h.here so_far appends
    by (inl (inr (inr (inl puts)))) = puts_below edits first number now old new h.edit h.edit lt h.here so_far puts
    by (inl (inr (inr (inr adds)))) = goes_in_place edits first number now old new so_far run lt h.edit h.here adds
    by (inr (inl puts)) = goes_again edits first number now old new so_far run lt h.edit h.here puts
    by (inr (inr takes)) = goes_by_element edits first number now old new so_far run lt h.edit h.here takes
