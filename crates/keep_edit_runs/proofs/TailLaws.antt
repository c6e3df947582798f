-- Edits that are made at once, with what comes at the end of the text after all others: the lists, and one edit more.
--
-- The edits that change the text elsewhere are a list of their own, which grows behind (`longer_list`). A list is made
-- in one way alone (`one_made_tree`), so the document with one edit more is the edited one (`last_made`). What comes at
-- the end stands behind the text of that document (`text_of_ends`), and stays where an edit is lifted past it: so the
-- edits of the list that is given are made too, with their text (`more_before`).
--
-- Theorems: `listed`, `longer_list`; `one_made_tree`, `last_made`; `text_of_ends`, `bytes_are`, `no_ends`,
-- `utf8_behind`; `base_adds`, `base_in_place`, `base_puts`, `base_takes`: one edit more that changes the text
-- elsewhere; `more_before`: so it is made with what is at the end; `in_begins`: no edits; `in_made`, `in_within`,
-- `in_few`: what the run changes.
use Rattle.std.proofs.Common.{[], ◌≡◌, ◌∙◌, ◌<◌, ◌≤◌, ◌+◌, ◌∷◌, ◌++◌, ℕ, suc, All, IsUtf8, List, length, take, get_or}
use Rattle.std.proofs.Common.{drop, refl, sym, ap, ap₂, subst, subst₂, arith, inl, inr, append_assoc, append-nil}
use Rattle.std.proofs.Common.{length-append, cond, IsCharBoundary}
use Rattle.std.specs.Prelude.{◌⊎◌, ⊤, Bool, None, Ok, Err, Option, Some, false, nat_lt, true}
use Rattle.std.specs.List.{AllZip}
use Rattle.std.proofs.lemmas.Bool.{ltb-true}
use Rattle.std.proofs.lemmas.List.{drop_all, length-take-le, take-append-le, take_all}
use Rattle.std.proofs.lemmas.List.Elements.{All-append, All-cons, All-head, All-nil, All-tail, All-weaker}
use Rattle.std.proofs.lemmas.Str.{IsCharBoundary-end, IsUtf8-append}
use Rattle.keep_types.specs.declared.leaf.Profile.{Profile}
use Rattle.keep_syntax.specs.Tree.{Document, text}
use Rattle.keep_path.specs.Path.{Part}
use Rattle.keep_edit_spec.specs.declared.fault.EditFault.{EditFault}
use Rattle.keep_edit_spec.specs.Answers.{applied_edits, applied_from}
use Rattle.keep_edit_spec.specs.Changed.{put}
use Rattle.keep_edit_spec.specs.Edits as law
use Rattle.keep_edit_spec.specs.Edits.{edited_document, place}
use Rattle.keep_edit_spec.specs.ElementRuns.{IsElsewhere}
use Rattle.keep_edit_spec.specs.EndEdits.{AreAtEnd, EndEdit, document_with}
use Rattle.keep_edit_spec.specs.Laws.{IsEditable}
use Rattle.keep_edit_spec.specs.Refusals.{refusal}
use Rattle.keep_edit_spec.specs.Runs as runs
use Rattle.keep_edit_spec.specs.TextChanges.{TextChange, change_at, text_with, with_change}
use Rattle.keep_edit_spec.proofs.Shared.{all_with, end_editable, end_text}
use Rattle.keep_edit_plan.specs.Reading.{IsAccepted, IsTextOfTree, ProfiledText, limit, text_in}
use Rattle.keep_edit_plan.specs.TextEdits.{IsChangeIn}
use Rattle.keep_edit_plan.specs.declared.edit.Edit.{Edit}
use Rattle.keep_edit_plan.proofs.Shared.{editable}
use Rattle.keep_edit_runs.specs.AddedLines.{IsHeaderKnown}
use Rattle.keep_edit_runs.specs.GoneBetween.{IsElementRunTo}
use Rattle.keep_edit_runs.specs.KindsRun.{AddsInPlace, AddsOne, IsAlone, IsRunOn, IsRunUpTo, IsUnchanged, PutsOne}
use Rattle.keep_edit_runs.specs.KindsRun.{StartsAt, TakesOne}
use Rattle.keep_edit_runs.specs.Lists.{AreMade, IsEdit, growth_of}
use Rattle.keep_edit_runs.specs.Newlines.{LeavesEndHere, LeavesHere}
use Rattle.keep_edit_runs.specs.Runs.{IsRunTo, LeavesAlone, MakeChanges, changed_text, outlined, plain}
use Rattle.keep_edit_runs.specs.SeenHeaders.{HasTableOf}
use Rattle.keep_edit_runs.specs.SeenPaths.{IsArraySeen, IsSeen}
use Rattle.keep_edit_runs.specs.Tail.{AreBlocks, bytes_of, is_element, written}
use Rattle.keep_edit_runs.specs.declared.added_lines.AddedLines.{AddedLines}
use Rattle.keep_edit_runs.specs.declared.at_once.Run.{Run}
use Rattle.keep_edit_runs.specs.declared.gone_between.GoneBetween.{GoneBetween}
use Rattle.keep_edit_runs.specs.declared.kinds_run.KindsRun.{KindsRun}
use Rattle.keep_edit_runs.specs.declared.outline.Outline.{Outline}
use Rattle.keep_edit_runs.specs.declared.outline.Outline.TheVariants as kind
use Rattle.keep_edit_runs.specs.declared.tail.Block.{Block}
use Rattle.keep_edit_runs.specs.declared.tail.Tail.{Tail}
use Rattle.keep_edit_runs.proofs.ElementSteps.{AreMadeAmong}
use Rattle.keep_edit_runs.proofs.LiftsPlain.{one_given}
use Rattle.keep_edit_runs.proofs.KindsRunSteps.{AreBaseIn, adds_in_place, adds_one, puts_one, run_begins, takes_one}
use Rattle.keep_edit_runs.proofs.MadeLists.{refused_as, zip_more}
use Rattle.keep_edit_runs.proofs.MadeMore.{more_made, tree_after}
use Rattle.keep_edit_runs.proofs.TailNewlines.{IsFirstKnown, known_of_both}
use Rattle.keep_edit_runs.proofs.TailRuns.{AreMadeIn, IsClear, IsLifted, IsTableKnown, IsTailTo, Lifts}

-- ---- a longer list

-- the same list, with the same document
abbrev pub listed : (s : Document) (xs ys : List Edit) (old now : ProfiledText) → xs ≡ ys → AreMade s xs old now
    → AreMade s ys old now
listed s xs ys old now same h = record {
  es = h.es;
  are = subst (λ (zs : List Edit). AllZip IsEdit zs h.es) same h.are;
  tree = h.tree;
  made = h.made;
  read = h.read;
  profile = h.profile;
  growth = h.growth;
}

-- the same text, with the same document
abbrev pub spelled_so : (s : Document) (xs : List Edit) (old : ProfiledText) (profile : Profile) (bytes more : List ℕ)
    → bytes ≡ more → AreMade s xs old (text_in profile bytes) → AreMade s xs old (text_in profile more)
spelled_so s xs old profile bytes more same h = record {
  es = h.es;
  are = h.are;
  tree = h.tree;
  made = h.made;
  read = subst (λ (b : List ℕ). IsTextOfTree (text_in profile b) h.tree) same h.read;
  profile = h.profile;
  growth = subst (λ (b : List ℕ). length b ≤ length old.text + growth_of h.es) same h.growth;
}

-- edits of one list are those of another that begins so
run_listed : (s : Document) (xs ys : List Edit) (n : ℕ) (old now : ProfiledText) (before : Document)
    (outlines : List Outline) (changes : List TextChange) (adds : AddedLines) → take n xs ≡ take n ys
    → IsRunTo s xs n old now before outlines changes adds → IsRunTo s ys n old now before outlines changes adds
run_listed s xs ys n old now before outlines changes adds same h = record {
  made = listed s (take n xs) (take n ys) old (changed_text now changes) same h.made;
  ms = h.ms;
  alone = h.alone;
  inserts = h.inserts;
  headers = h.headers;
  sets = h.sets;
  renames = h.renames;
  allow = h.allow;
  lines = h.lines;
  counts = h.counts;
  followed = h.followed;
  headed = h.headed;
  headers_known = h.headers_known;
  at_once = h.at_once;
  changes_are = h.changes_are;
  tree_is = h.tree_is;
}

element_run_listed : (s : Document) (xs ys : List Edit) (n : ℕ) (old now : ProfiledText) (before : Document)
    (outlines : List Outline) (changes : List TextChange) (adds : AddedLines) (arrays gone : List (List Part))
    → take n xs ≡ take n ys → IsElementRunTo s xs n old now before outlines changes adds arrays gone
    → IsElementRunTo s ys n old now before outlines changes adds arrays gone
element_run_listed s xs ys n old now before outlines changes adds arrays gone same h = record {
  made = listed s (take n xs) (take n ys) old (changed_text now changes) same h.made;
  es = h.es;
  lines = h.lines;
  paths = h.paths;
  alone = h.alone;
  elsewhere = h.elsewhere;
  known = h.known;
  counted = h.counted;
  headers_known = h.headers_known;
  of_arrays = h.of_arrays;
  leads = h.leads;
  run = h.run;
}

pub longer_list : (own : List Edit) (x : Edit) (first n : ℕ) (now : ProfiledText) (outlines : List Outline)
    (changes : List TextChange) (adds : AddedLines) (gone : GoneBetween)
    → AreMadeAmong own first n now outlines changes adds gone → first ≤ length own → n ≤ length own
    → AreMadeAmong (own ++ x ∷ []) first n now outlines changes adds gone
longer_list own x first n now outlines changes adds gone so_far low few =
    let more : List Edit = own ++ x ∷ [] in
    let begins : take first more ≡ take first own = take-append-le first own (x ∷ []) low in
    let same : take n own ≡ take n more = sym (take-append-le n own (x ∷ []) few) in
    record {
      made = λ s old h. element_run_listed s own more n old now h.tree outlines changes adds gone.arrays.items
          gone.elements same (so_far.made s old (listed s (take first more) (take first own) old now begins h));
      none = λ empty.
          let (no_elements, none) = so_far.none empty in (
            no_elements,
            record {
              made = λ s old h. run_listed s own more n old now h.tree outlines changes adds same
                  (none.made s old (listed s (take first more) (take first own) old now begins h));
              within = none.within;
              utf8 = none.utf8;
            },
          );
      elsewhere = so_far.elsewhere;
      within = so_far.within;
      utf8 = so_far.utf8;
    }

-- the last one of a list
pub last_is : (xs : List Edit) (x d : Edit) → get_or (xs ++ x ∷ []) (length xs) d ≡ x
last_is [] x d = refl
last_is (y ∷ xs) x d = last_is xs x d

pub length_more : (xs : List Edit) (x : Edit) → length (xs ++ x ∷ []) ≡ suc (length xs)
length_more xs x = length-append xs (x ∷ []) ∙ omega arith

-- ---- one document

one_list : (xs : List Edit) (es fs : List law.Edit) → AllZip IsEdit xs es → AllZip IsEdit xs fs → es ≡ fs
one_list [] [] [] h k = refl
one_list [] [] (f ∷ fs) h k = absurd k
one_list [] (e ∷ es) fs h k = absurd h
one_list (x ∷ xs) [] fs h k = absurd h
one_list (x ∷ xs) (e ∷ es) [] h k = absurd k
one_list (x ∷ xs) (e ∷ es) (f ∷ fs) h k =
    ap₂ (λ (g : law.Edit) (gs : List law.Edit). g ∷ gs) (one_given x e f h.0 k.0) (one_list xs es fs h.1 k.1)

pub one_made_tree : (s : Document) (xs : List Edit) (old now next : ProfiledText) → (h : AreMade s xs old now)
    → (k : AreMade s xs old next) → h.tree ≡ k.tree
one_made_tree s xs old now next h k =
    let both : Ok h.tree ≡ Ok k.tree =
    sym h.made
    ∙ ap (λ (es : List law.Edit). applied_edits old.profile limit es s) (one_list xs h.es k.es h.are k.are)
    ∙ k.made in
    cc

-- the last edit of those that were made is not refused, and the document is the edited one
last_applied : (profile : Profile) (n : ℕ) (es : List law.Edit) (e : law.Edit) (s u v : Document)
    → applied_from profile limit n es s ≡ Ok u → applied_from profile limit n (es ++ e ∷ []) s ≡ Ok v
    → (refusal profile limit u e ≡ None) × (v ≡ edited_document u e)
last_applied profile n [] e s u v h k =
    let same : s ≡ u = cc in
    subst (λ (t : Document). (refusal profile limit t e ≡ None) × (v ≡ edited_document t e)) same
    (by (refusal profile limit s e) refl)
  where
    by : (o : Option EditFault) → refusal profile limit s e ≡ o
        → (refusal profile limit s e ≡ None) × (v ≡ edited_document s e)
    by None is =
        let there : Ok (edited_document s e) ≡ Ok v = rw (is, applied_from) at k in
        let same : edited_document s e ≡ v = cc in
        (is, sym same)
    by (Some f) is = absurd (let no : Err (refused_as n f) ≡ Ok v = rw (is, applied_from) at k in cc)
last_applied profile n (x ∷ es) e s u v h k =
    by (refusal profile limit s x) refl (λ r t. last_applied profile (suc n) es e (edited_document s x) u v r t)
  where
    by : (o : Option EditFault) → refusal profile limit s x ≡ o
        → (applied_from profile limit (suc n) es (edited_document s x) ≡ Ok u
        → applied_from profile limit (suc n) (es ++ e ∷ []) (edited_document s x) ≡ Ok v
        → (refusal profile limit u e ≡ None) × (v ≡ edited_document u e))
        → (refusal profile limit u e ≡ None) × (v ≡ edited_document u e)
    by None is rest = rest (rw (is, applied_from) at h) (rw (is, applied_from) at k)
    by (Some f) is rest = absurd (let no : Err (refused_as n f) ≡ Ok u = rw (is, applied_from) at h in cc)

pub last_made : (s : Document) (edits : List Edit) (n : ℕ) (old now next : ProfiledText) (d x : Edit) (e : law.Edit)
    → n < length edits → get_or edits n d ≡ x → IsEdit x e → (h : AreMade s (take n edits) old now)
    → (k : AreMade s (take (suc n) edits) old next)
    → (refusal old.profile limit h.tree e ≡ None) × (k.tree ≡ edited_document h.tree e)
last_made s edits n old now next d x e lt here given h k =
    let same : k.es ≡ h.es ++ e ∷ [] =
    one_list (take (suc n) edits) k.es (h.es ++ e ∷ []) k.are (zip_more edits n d x h.es e lt here h.are given) in
    last_applied old.profile 0 h.es e s h.tree k.tree h.made
    (subst (λ (es : List law.Edit). applied_edits old.profile limit es s ≡ Ok k.tree) same k.made)

-- ---- what is at the end of the text

pub text_of_ends : (profile : Profile) (bound : ℕ) (s : Document) (ts : List EndEdit) → AreAtEnd profile bound s ts
    → IsEditable profile bound s → text (document_with s ts) ≡ text s ++ written ts
text_of_ends profile bound s [] h fine = sym (append-nil (text s))
text_of_ends profile bound s (t ∷ ts) h fine =
    text_of_ends profile bound (edited_document s t.edit) ts h.1 (end_editable profile bound s t fine h.0)
    ∙ ap (λ (b : List ℕ). b ++ written ts) (end_text profile bound s t fine h.0)
    ∙ append_assoc (text s) t.new (written ts)

pub written_joined : (first last : List EndEdit) → written (first ++ last) ≡ written first ++ written last
written_joined [] last = refl
written_joined (t ∷ first) last =
    ap (λ (b : List ℕ). t.new ++ b) (written_joined first last)
    ∙ sym (append_assoc t.new (written first) (written last))

pub bytes_are : (blocks : List Block) (ts : List EndEdit) → AreBlocks blocks ts → bytes_of blocks ≡ written ts
bytes_are [] ts h = sym (ap written h)
bytes_are (b ∷ bs) ts (t, (own, (rest, (is, (block, others))))) =
    ap (λ (bytes : List ℕ). bytes ++ bytes_of bs) block.text ∙ append_assoc t.new (written own) (bytes_of bs)
    ∙ ap (λ (bytes : List ℕ). t.new ++ (written own ++ bytes)) (bytes_are bs rest others)
    ∙ ap (λ (bytes : List ℕ). t.new ++ bytes) (sym (written_joined own rest)) ∙ sym (ap written is)

pub no_ends : (blocks : List Block) (ts : List EndEdit) → blocks ≡ [] → AreBlocks blocks ts → ts ≡ []
no_ends blocks ts none h = subst (λ (bs : List Block). AreBlocks bs ts) none h

pub utf8_behind : (bytes : List ℕ) (ts : List EndEdit) → IsUtf8 bytes → All (λ t. IsUtf8 t.new) ts
    → IsUtf8 (bytes ++ written ts)
utf8_behind bytes [] utf8 h = subst IsUtf8 (sym (append-nil bytes)) utf8
utf8_behind bytes (t ∷ ts) utf8 h =
    subst IsUtf8 (append_assoc bytes t.new (written ts))
    (utf8_behind (bytes ++ t.new) ts
    (IsUtf8-append bytes t.new utf8 (All-head (λ (u : EndEdit). IsUtf8 u.new) t ts h))
    (All-tail (λ (u : EndEdit). IsUtf8 u.new) t ts h))

-- ---- one edit more that changes the text elsewhere

module _ (edits : List Edit) (first end : ℕ) (now : ProfiledText) (old new : KindsRun)
    (so_far : AreMadeIn edits first end now old) (x : Edit) where
  -- the list of those with it
  abbrev pub longer : List Edit
  longer = so_far.own ++ x ∷ []

  longer_base : AreBaseIn longer first (length so_far.own) now old
  longer_base =
      longer_list so_far.own x first (length so_far.own) now old.so_far.outlines.items old.so_far.changes old.lines
      old.gone so_far.base so_far.low (omega arith)

  more_there : length so_far.own < length longer
  more_there = omega (arith, length_more so_far.own x)

  pub base_adds : AddsOne now old x new → AreBaseIn longer first (suc (length so_far.own)) now new
  base_adds =
      adds_one longer first (length so_far.own) now old new longer_base more_there x x (last_is so_far.own x x)

  pub base_in_place : AddsInPlace now old x new → AreBaseIn longer first (suc (length so_far.own)) now new
  base_in_place =
      adds_in_place longer first (length so_far.own) now old new longer_base more_there x x (last_is so_far.own x x)

  pub base_puts : All (IsSeen old.paths) old.so_far.outlines.items → PutsOne now old x new
      → AreBaseIn longer first (suc (length so_far.own)) now new
  base_puts =
      puts_one longer first (length so_far.own) now old new longer_base more_there x x (last_is so_far.own x x)

  pub base_takes : TakesOne now old x new → AreBaseIn longer first (suc (length so_far.own)) now new
  base_takes =
      takes_one longer first (length so_far.own) now old new longer_base more_there x x (last_is so_far.own x x)

-- an outline has no values
pub outlined_plain : (o : Outline) → plain (outlined o) ≡ outlined o
outlined_plain (kind.Set path) = refl
outlined_plain (kind.Insert path) = refl
outlined_plain (kind.Rename path name) = refl
outlined_plain (kind.Remove path) = refl
outlined_plain (kind.Table keys) = refl
outlined_plain (kind.Element keys) = refl

table_known : (old new : AddedLines) → ((q : List Part) → HasTableOf old.headers q → HasTableOf new.headers q)
    → (e : law.Edit) → IsTableKnown old e → IsTableKnown new e
table_known old new all (law.set p v) h = tt
table_known old new all (law.insert p v) h = all _ h
table_known old new all (law.rename p name) h = tt
table_known old new all (law.remove p) h = tt
table_known old new all (law.append_table ks) h = tt
table_known old new all (law.append_element ks) h = tt

all_true : (os : List Outline) → All (λ o. ⊤) os
all_true [] = All-nil (λ (o : Outline). ⊤)
all_true (o ∷ os) = All-cons (λ (p : Outline). ⊤) o os tt (all_true os)

-- It is made with what is at the end, if it is lifted past that.
module _ (edits : List Edit) (first end : ℕ) (now : ProfiledText) (old new : KindsRun)
    (so_far : AreMadeIn edits first end now old) (lt : end < length edits) (d x : Edit)
    (here : get_or edits end d ≡ x) (e : law.Edit) (given : IsEdit x e) (lifts : Lifts edits first end now old x)
    (base : AreBaseIn (so_far.own ++ x ∷ []) first (suc (length so_far.own)) now new) (tail : new.tail ≡ old.tail)
    (more : List Outline) (outlines : new.so_far.outlines.items ≡ old.so_far.outlines.items ++ more)
    (apart : (old.tail.blocks.items ≡ []) ⊎ All (λ o. All (λ y. LeavesAlone y o) old.tail.outlines.items) more)
    (headers : (f : law.Edit) → IsHeaderKnown old.lines f → IsHeaderKnown new.lines f)
    (tables : (q : List Part) → HasTableOf old.lines.headers q → HasTableOf new.lines.headers q)
    (no_headers : new.lines.appended ≡ 0) (clear : IsAccepted now → IsClear now new) where
  abbrev own : List Edit
  own = so_far.own ++ x ∷ []

  begins : take first own ≡ take first so_far.own
  begins = take-append-le first so_far.own (x ∷ []) so_far.low

  base_here : AreBaseIn own first (length own) now new
  base_here = subst (λ (n : ℕ). AreBaseIn own first n now new) (sym (length_more so_far.own x)) base

  module _ (s : Document) (was : ProfiledText) (h : AreMade s (take first own) was now) where
    abbrev earlier : AreMade s (take first so_far.own) was now
    earlier = listed s (take first own) (take first so_far.own) was now begins h

    abbrev base_before : AreMade s (take (length so_far.own) so_far.own) was (changed_text now old.so_far.changes)
    base_before = (so_far.base.made s was earlier).made

    abbrev base_after : AreMade s (take (length own) own) was (changed_text now new.so_far.changes)
    base_after = (base_here.made s was h).made

    abbrev it : IsTailTo s edits end was now base_before.tree old.so_far.outlines.items old.so_far.changes old.lines
        old.tail
    it = so_far.whole s was earlier

    abbrev ts : List EndEdit
    ts = it.ts

    grown : base_after.tree ≡ edited_document base_before.tree e
    grown =
        (last_made s own (length so_far.own) was (changed_text now old.so_far.changes)
        (changed_text now new.so_far.changes) x x e (omega (arith, length_more so_far.own x))
        (last_is so_far.own x x) given
        (listed s (take (length so_far.own) so_far.own) (take (length so_far.own) own) was
        (changed_text now old.so_far.changes)
        (sym (take-append-le (length so_far.own) so_far.own (x ∷ []) (omega arith))) base_before)
        (listed s (take (length own) own) (take (suc (length so_far.own)) own) was
        (changed_text now new.so_far.changes)
        (ap (λ (n : ℕ). take n own) (length_more so_far.own x)) base_after)).1

    -- the first newline is known of the document with the edit, too
    known_so : IsFirstKnown base_before.tree ts (edited_document base_before.tree e)
    known_so = by (so_far.clear (earlier.tree, earlier.read)) (clear (earlier.tree, earlier.read))
      where
        none_there : old.tail.blocks.items ≡ [] → ts ≡ []
        none_there none = no_ends old.tail.blocks.items ts none it.is

        by : IsClear now old → IsClear now new
            → IsFirstKnown base_before.tree ts (edited_document base_before.tree e)
        by (inl none) any = inl (none_there none)
        by (inr clear_before) (inl none) =
            inl (none_there (sym (ap (λ (t : Tail). t.blocks.items) tail) ∙ none))
        by (inr clear_before) (inr clear_after) =
            subst (IsFirstKnown base_before.tree ts) grown
            (known_of_both now earlier.tree earlier.read old.so_far.changes new.so_far.changes base_before.tree
            base_after.tree base_before.read base_after.read clear_before.leave clear_after.leave ts it.leave)

    lifted : IsLifted now.profile base_before.tree ts e
    lifted = lifts so_far s was earlier e given known_so

    ends : AreAtEnd now.profile limit base_after.tree ts
    ends = subst (λ (t : Document). AreAtEnd now.profile limit t ts) (sym grown) lifted.ends

    blocks : AreBlocks new.tail.blocks.items ts
    blocks = subst (λ (t : Tail). AreBlocks t.blocks.items ts) (sym tail) it.is

    -- the text with what is at the end, before the edit and after it
    abbrev text_before : ProfiledText
    text_before = text_in now.profile (text_with 0 now.text old.so_far.changes ++ bytes_of old.tail.blocks.items)

    abbrev bytes : List ℕ
    bytes = text_with 0 now.text new.so_far.changes ++ bytes_of new.tail.blocks.items

    read : IsTextOfTree text_before (document_with base_before.tree ts)
    read = subst (IsTextOfTree text_before) (sym it.tree_is) it.made.read

    written_behind : bytes_of new.tail.blocks.items ≡ written ts
    written_behind = bytes_are new.tail.blocks.items ts blocks

    utf8 : IsUtf8 bytes
    utf8 =
        subst (λ (b : List ℕ). IsUtf8 (text_with 0 now.text new.so_far.changes ++ b)) (sym written_behind)
        (utf8_behind (text_with 0 now.text new.so_far.changes) ts base_after.read.utf8 it.utf8)

    one_document : document_with base_after.tree ts ≡ edited_document (document_with base_before.tree ts) e
    one_document = ap (λ (t : Document). document_with t ts) grown ∙ sym lifted.same

    is : bytes ≡ put text_before.text (place (document_with base_before.tree ts) e)
    is =
        ap₂ (λ (a b : List ℕ). a ++ b) base_after.read.reads.spelled written_behind
        ∙ sym (text_of_ends now.profile limit base_after.tree ts ends
        (editable (changed_text now new.so_far.changes) base_after.tree base_after.read))
        ∙ ap (λ (t : Document). text t) one_document ∙ sym lifted.lawful.reads.spelled
        ∙ ap (λ (b : List ℕ). put b (place (document_with base_before.tree ts) e)) (sym read.reads.spelled)

    made : AreMade s (take (suc end) edits) was (text_in now.profile bytes)
    made =
        more_made text_before (document_with base_before.tree ts) e read lifted.lawful bytes utf8 is s edits end was d x
        lt here given it.made (sym it.tree_is) lifted.allowed

    more_apart : (old.tail.blocks.items ≡ []) ⊎ All (λ o. All (λ y. LeavesAlone y o) old.tail.outlines.items) more
        → All (λ o. All (λ t. runs.LeavesAlone t.seen (outlined o)) ts) more
    more_apart (inl none) =
        All-weaker (λ o. ⊤) (λ o. All (λ t. runs.LeavesAlone t.seen (outlined o)) ts)
        (λ o all. subst (All (λ t. runs.LeavesAlone t.seen (outlined o)))
        (sym (no_ends old.tail.blocks.items ts none it.is))
        (All-nil (λ (t : EndEdit). runs.LeavesAlone t.seen (outlined o)))) more (all_true more)
    more_apart (inr all_apart) =
        All-weaker (λ o. All (λ y. LeavesAlone y o) old.tail.outlines.items)
        (λ o. All (λ t. runs.LeavesAlone t.seen (outlined o)) ts)
        (λ o all. it.alone (outlined o)
        (subst (λ (f : law.Edit). All (λ y. runs.LeavesAlone (outlined y) f) old.tail.outlines.items)
        (sym (outlined_plain o)) all)) more all_apart

    whole_more : IsTailTo s edits (suc end) was now base_after.tree new.so_far.outlines.items new.so_far.changes
        new.lines new.tail
    whole_more = record {
      ts = ts;
      is = blocks;
      ends = ends;
      made = made;
      tree_is = one_document
          ∙ tree_after text_before (document_with base_before.tree ts) e read lifted.lawful bytes utf8 is made.tree
          made.read;
      alone = λ f all. it.alone f
          (subst (λ (t : Tail). All (λ y. runs.LeavesAlone (outlined y) (plain f)) t.outlines.items) tail all);
      elsewhere = λ path all. it.elsewhere path
          (subst (λ (t : Tail). All (λ y. IsElsewhere path (outlined y)) t.outlines.items) tail all);
      apart = subst (All (λ o. All (λ t. runs.LeavesAlone t.seen (outlined o)) ts)) (sym outlines)
          (All-append (λ o. All (λ t. runs.LeavesAlone t.seen (outlined o)) ts) old.so_far.outlines.items more it.apart
          (more_apart apart));
      leave = it.leave;
      utf8 = it.utf8;
      known = All-weaker (λ t. IsHeaderKnown old.lines t.seen) (λ t. IsHeaderKnown new.lines t.seen)
          (λ t. headers t.seen) ts it.known;
      tables = All-weaker (λ t. IsTableKnown old.lines t.seen) (λ t. IsTableKnown new.lines t.seen)
          (λ t. table_known old.lines new.lines tables t.seen) ts it.tables;
    }

  pub more_before : AreMadeIn edits first (suc end) now new
  more_before = record {
    own = own;
    begins = begins ∙ so_far.begins;
    low = omega (arith, so_far.low, length_more so_far.own x);
    no_headers = no_headers;
    base = base_here;
    whole = whole_more;
    clear = clear;
  }

-- ---- none yet

pub in_begins : (edits : List Edit) (first : ℕ) (now : ProfiledText) (run : KindsRun) → first ≤ length edits
    → StartsAt now run → AreMadeIn edits first first now run × IsRunOn now run
in_begins edits first now run few h =
    let own : List Edit = take first edits in
    let long : length own ≡ first = length-take-le first edits few in
    let again : take first own ≡ own = take_all first own (omega (arith, long)) in
    let whole : take (length own) own ≡ take first edits = take_all (length own) own (omega arith) in
    let nothing : bytes_of run.tail.blocks.items ≡ [] = ap bytes_of h.blocks in
    let base : AreBaseIn own first (length own) now run =
    subst (λ (n : ℕ). AreBaseIn own first n now run) (sym long) (run_begins own first now run h) in (
      record {
        own = own;
        begins = again;
        low = omega (arith, long);
        no_headers = sym h.counts.appended;
        base = base;
        whole = λ s old k.
            let bytes : List ℕ = text_with 0 now.text run.so_far.changes in
            record {
              ts = [];
              is = subst (λ (bs : List Block). AreBlocks bs []) (sym h.blocks) refl;
              ends = tt;
              made = spelled_so s (take first edits) old now.profile bytes
                  (bytes ++ bytes_of run.tail.blocks.items)
                  (sym (ap (λ (b : List ℕ). bytes ++ b) nothing ∙ append-nil bytes))
                  (listed s (take (length own) own) (take first edits) old (changed_text now run.so_far.changes) whole
                  (base.made s old k).made);
              tree_is = refl;
              alone = λ f all. All-nil (λ (t : EndEdit). runs.LeavesAlone t.seen f);
              elsewhere = λ path all. All-nil (λ (t : EndEdit). IsElsewhere path t.seen);
              apart = subst (All (λ (o : Outline). All (λ (t : EndEdit). runs.LeavesAlone t.seen (outlined o)) []))
                  (sym h.outlines)
                  (All-nil (λ (o : Outline). All (λ (t : EndEdit). runs.LeavesAlone t.seen (outlined o)) []));
              leave = All-nil (λ (t : EndEdit). LeavesEndHere now t.new);
              utf8 = All-nil (λ (t : EndEdit). IsUtf8 t.new);
              known = All-nil (λ (t : EndEdit). IsHeaderKnown run.lines t.seen);
              tables = All-nil (λ (t : EndEdit). IsTableKnown run.lines t.seen);
            };
        clear = λ accepted. inl h.blocks;
      },
      record {
        seen = record {
          edits = subst (All (IsSeen run.paths)) (sym h.outlines) (All-nil (IsSeen run.paths));
          arrays = subst (All (IsArraySeen run.paths)) (sym h.arrays) (All-nil (IsArraySeen run.paths));
          tail = subst (All (IsSeen run.tail.paths)) (sym h.outlines_at_end) (All-nil (IsSeen run.tail.paths));
          elements = subst (All (λ (t : Outline). is_element t ≡ true → IsAlone run t)) (sym h.outlines_at_end)
              (All-nil (λ (t : Outline). is_element t ≡ true → IsAlone run t));
        };
        newline = λ yes. subst (All (LeavesHere now)) (sym h.changes) (All-nil (LeavesHere now));
        planner = h.planner;
      },
    )

-- ---- so all are made

-- a change at the end of the text comes behind all others
put_at_end : (len : ℕ) (new : List ℕ) (cs : List TextChange) → All (λ c. c.at ≤ len) cs
    → with_change cs (change_at len 0 new) ≡ cs ++ change_at len 0 new ∷ []
put_at_end len new [] h = refl
put_at_end len new (c ∷ cs) h =
    by (nat_lt len c.at) refl (put_at_end len new cs (All-tail (λ (d : TextChange). d.at ≤ len) c cs h))
  where
    by : (b : Bool) → nat_lt len c.at ≡ b
        → with_change cs (change_at len 0 new) ≡ cs ++ change_at len 0 new ∷ []
        → cond b (change_at len 0 new ∷ c ∷ cs) (c ∷ with_change cs (change_at len 0 new))
        ≡ c ∷ cs ++ change_at len 0 new ∷ []
    by true is rest =
        absurd (omega (arith, ltb-true len c.at is, All-head (λ (d : TextChange). d.at ≤ len) c cs h))
    by false is rest = ap (λ (ds : List TextChange). c ∷ ds) rest

text_at_end : (from : ℕ) (bytes new : List ℕ) (cs : List TextChange)
    → text_with from bytes (cs ++ change_at (length bytes) 0 new ∷ []) ≡ text_with from bytes cs ++ new
text_at_end from bytes new [] =
    ap₂ (λ (a b : List ℕ). drop from a ++ (new ++ b)) (take_all (length bytes) bytes (omega arith))
    (drop_all (length bytes + 0) bytes (omega arith))
    ∙ ap (λ (b : List ℕ). drop from bytes ++ b) (append-nil new)
text_at_end from bytes new (c ∷ cs) =
    ap (λ (b : List ℕ). drop from (take c.at bytes) ++ (c.new ++ b)) (text_at_end (c.at + c.size) bytes new cs)
    ∙ ap (λ (b : List ℕ). drop from (take c.at bytes) ++ b)
    (sym (append_assoc c.new (text_with (c.at + c.size) bytes cs) new))
    ∙ sym (append_assoc (drop from (take c.at bytes)) (c.new ++ text_with (c.at + c.size) bytes cs) new)

pub text_with_end : (bytes new : List ℕ) (cs : List TextChange) → All (IsChangeIn bytes) cs
    → text_with 0 bytes (with_change cs (change_at (length bytes) 0 new)) ≡ text_with 0 bytes cs ++ new
text_with_end bytes new cs within =
    ap (λ (ds : List TextChange). text_with 0 bytes ds)
    (put_at_end (length bytes) new cs
    (All-weaker (IsChangeIn bytes) (λ c. c.at ≤ length bytes) (λ c h. h.starts.0) cs within))
    ∙ text_at_end 0 bytes new cs

module _ (edits : List Edit) (first end len : ℕ) (now : ProfiledText) (old run : KindsRun)
    (so_far : AreMadeIn edits first end now old) (same : IsUnchanged old run) (result : Run)
    (len_is : len ≡ length now.text) (up_to : IsRunUpTo run first end len result) where
  -- it is the number of the edits that are made, or the first one's
  pub in_few : first ≤ end → (first ≤ result.end) × (result.end ≤ end)
  in_few few = elim up_to.by [
    | inl (none, (is, there)) ↦ (omega (arith, few, there), omega (arith, there))
    | inr (inl (is, there)) ↦ (omega (arith, few, there), omega (arith, there))
    | inr (inr (is, there)) ↦ (omega (arith, there), omega (arith, few, there))
  ]

  pub in_within : All (IsChangeIn now.text) result.changes
  in_within = elim up_to.by [
    | inl (none, (is, there)) ↦ subst (All (IsChangeIn now.text)) (sym (is ∙ same.changes)) so_far.base.within
    | inr (inl (is, there)) ↦
        subst (All (IsChangeIn now.text)) (sym is)
        (all_with (IsChangeIn now.text) run.so_far.changes (change_at len 0 (bytes_of run.tail.blocks.items))
        (subst (All (IsChangeIn now.text)) (sym same.changes) so_far.base.within)
        (subst (λ (n : ℕ). IsChangeIn now.text (change_at n 0 (bytes_of run.tail.blocks.items))) (sym len_is)
        (record {
          starts = IsCharBoundary-end now.text;
          ends = subst (IsCharBoundary now.text)
              (let e : length now.text ≡ length now.text + 0 = omega arith in e) (IsCharBoundary-end now.text);
        })))
    | inr (inr (is, there)) ↦ subst (All (IsChangeIn now.text)) (sym is) (All-nil (IsChangeIn now.text))
  ]

  -- the text with its changes is that of the edits
  text_is : text_with 0 now.text old.so_far.changes ++ bytes_of old.tail.blocks.items
      ≡ text_with 0 now.text run.so_far.changes ++ bytes_of run.tail.blocks.items
  text_is =
      ap₂ (λ (cs : List TextChange) (b : List ℕ). text_with 0 now.text cs ++ b) (sym same.changes) (sym same.tail)

  module _ (s : Document) (was : ProfiledText) (h : AreMade s (take first edits) was now) where
    abbrev to_end : AreMade s (take end edits) was
        (text_in now.profile (text_with 0 now.text old.so_far.changes ++ bytes_of old.tail.blocks.items))
    to_end =
        (so_far.whole s was (listed s (take first edits) (take first so_far.own) was now (sym so_far.begins) h)).made

    made_with : (changes : List TextChange)
        → text_with 0 now.text run.so_far.changes ++ bytes_of run.tail.blocks.items ≡ text_with 0 now.text changes
        → result.changes ≡ changes → result.end ≡ end
        → AreMade s (take result.end edits) was (changed_text now result.changes)
    made_with changes bytes is there =
        subst₂ (λ (n : ℕ) (cs : List TextChange). AreMade s (take n edits) was (changed_text now cs)) (sym there)
        (sym is)
        (spelled_so s (take end edits) was now.profile
        (text_with 0 now.text old.so_far.changes ++ bytes_of old.tail.blocks.items) (text_with 0 now.text changes)
        (text_is ∙ bytes) to_end)

    made_to_end : AreMade s (take result.end edits) was (changed_text now result.changes)
    made_to_end = elim up_to.by [
      | inl (none, (is, there)) ↦
          made_with run.so_far.changes
          (ap (λ (bs : List Block). text_with 0 now.text run.so_far.changes ++ bytes_of bs) none
          ∙ append-nil (text_with 0 now.text run.so_far.changes)) is there
      | inr (inl (is, there)) ↦
          made_with (with_change run.so_far.changes (change_at len 0 (bytes_of run.tail.blocks.items)))
          (sym (text_with_end now.text (bytes_of run.tail.blocks.items) run.so_far.changes
          (subst (All (IsChangeIn now.text)) (sym same.changes) so_far.base.within))
          ∙ ap (λ (n : ℕ). text_with 0 now.text (with_change run.so_far.changes
          (change_at n 0 (bytes_of run.tail.blocks.items)))) (sym len_is))
          is there
      | inr (inr (is, there)) ↦
          subst₂ (λ (n : ℕ) (cs : List TextChange). AreMade s (take n edits) was (changed_text now cs)) (sym there)
          (sym is) h
    ]

  pub in_made : MakeChanges edits first result.end now result.changes
  in_made = made_to_end
