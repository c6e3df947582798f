-- A rename does not change where and what another rename replaces, except that the place moves.
--
-- What `rename` replaces is the key part that is known of the path's node, by its number (`rename_placed`). The other
-- path is neither below the renamed one nor below its new path, where nothing was. So the same is said of it as before,
-- with the same numbers (`numbered_stays`): one key part names it then too (`one_stays`), the one with the same number
-- (`number_stays`), so the other rename has a change (`rename_goes_on`). Where the key part with that number is then is
-- known from `PartPlaces`: it is not the one that is replaced, since the two changes are beside each other
-- (`place_moves`). All but the last is said of any path, and of the path that it goes to: that of the renamed key goes
-- to the new one.
--
-- Theorems: `one_stays`: one key part names the other path then; `rename_goes_on`: the other rename has a change then;
-- `place_stays`: its place, by where its key part is; `rename_place_stays`: which is the moved one.
use Rattle.std.proofs.Common.{◌≡◌, ℕ, ◌+◌, ◌<◌, Bool, true, false, cond, List, [], ◌∷◌, length, map, slice_get}
use Rattle.std.proofs.Common.{refl, sym, ap, ap₂, subst, ◌∙◌, arith, IsUtf8, Option, Some, None, inl, inr}
use Rattle.std.specs.Prelude.{◌||◌}
use Rattle.std.specs.List.{count_by, list_any}
use Rattle.std.specs.Option.{option_and_then, option_map}
use Rattle.std.proofs.lemmas.Bool.{lt-ltb, le-ltb}
use Rattle.std.proofs.lemmas.List.Sums.{sum_by-cons}
use Rattle.keep_token.specs.Encoded.{encoded_key}
use Rattle.keep_types.specs.declared.leaf.Profile.{Profile}
use Rattle.keep_types.specs.declared.syntax.KeyPart.{KeyPart}
use Rattle.keep_types.specs.declared.syntax.Span.{Span}
use Rattle.keep_syntax.specs.Tree.{Document}
use Rattle.keep_syntax.specs.Numbered as syntax
use Rattle.keep_path.specs.Path.{Part, beside, moved_path, same_path}
use Rattle.keep_meaning.specs.Counts.{Numbered, is_mark, numbered_in}
use Rattle.keep_meaning.specs.Marks.{Mention}
use Rattle.keep_meaning.specs.Meaning.{mentions_in}
use Rattle.keep_meaning.specs.Nodes.{first_number, is_at, is_root, key_number, key_span, key_span_of}
use Rattle.keep_meaning.specs.Nodes.{mark_count, mention_of, node_at, numbered_at}
use Rattle.keep_meaning.proofs.Shared.{mentions-numbered_in}
use Rattle.keep_edit_spec.specs.Changed.{Changed, Place, place_of}
use Rattle.keep_edit_spec.specs.Edits.{Edit, change, changed_or_same, edited_document, place, rename}
use Rattle.keep_edit_spec.specs.Laws.{IsEditable, IsLawfulEdit}
use Rattle.keep_edit_spec.specs.Refusals.{refusal}
use Rattle.keep_edit_spec.specs.RenamedKeys.{ArePathsApart, RenamesKey}
use Rattle.keep_edit_spec.specs.TextChanges.{IsBeside, TextChange, moved, moved_by, place_of_change}
use Rattle.keep_edit_spec.proofs.EditLaws.{rename_lawful}
use Rattle.keep_edit_spec.proofs.Common.DoneAtValue.{EachOf}
use Rattle.keep_edit_spec.proofs.Common.LineLaws.{EndsInKey}
use Rattle.keep_edit_spec.proofs.Common.Marks.{rules_of_document}
use Rattle.keep_edit_spec.proofs.Common.Moves.{IsInjectiveOn}
use Rattle.keep_edit_spec.proofs.Common.Runs.{AllOf, IsDisjoint, same_path-refl, same_path-sound}
use Rattle.keep_edit_spec.proofs.Common.ValueThere.{the_some}
use Rattle.keep_edit_spec.proofs.Lists.PartPlaces.{PartStays, PartsStay, begins_after, begins_there, ends_before}
use Rattle.keep_edit_spec.proofs.Lists.PartPlaces.{part_stays, parts_stay}
use Rattle.keep_edit_spec.proofs.Remove.RemovePlace.{same_place}
use Rattle.keep_edit_spec.proofs.Rename.MovedLines.{moved_numbered}
use Rattle.keep_edit_spec.proofs.Rename.RenameFound.{some_rename}
use Rattle.keep_edit_spec.proofs.Rename.RenameNodes.{IsClear, IsNodeRenamed, nodes_renamed}
use Rattle.keep_edit_spec.proofs.Rename.RenameNumber.{IsKeyRenamed, marks_stated, rename_place_is, rename_placed}
use Rattle.keep_edit_spec.proofs.Rename.RenameOnce.{some_counted}
use Rattle.keep_edit_spec.proofs.Rename.RenameWhole.{IsRenamable, beside_is, renamable}
use Rattle.keep_edit_spec.proofs.Rename.RenamedPath.{disjoint_renamed, ends_old}

-- ---- the key part of a place

-- the key part that is known of a node, by its number
record IsKnownPart (parts : List KeyPart) (number : Option ℕ) (span : Span) : Type 0 where
  at : ℕ
  part : KeyPart
  known : number ≡ Some at
  here : slice_get parts at ≡ Some part
  is : part.span ≡ span

known_part : (parts : List KeyPart) (number : Option ℕ) (span : Span)
    → option_and_then (key_span parts) number ≡ Some span → IsKnownPart parts number span
known_part parts None span e = absurd cc
known_part parts (Some k) span e = by (slice_get parts k) refl e
  where
    by : (o : Option KeyPart) → slice_get parts k ≡ o → option_map (λ (p : KeyPart). p.span) o ≡ Some span
        → IsKnownPart parts (Some k) span
    by None here e = absurd cc
    by (Some q) here e = record { at = k; part = q; known = refl; here = here; is = cc }

-- A change whose place is a key part beside another change is at the moved place.
place_moves : (c d : TextChange) (q q' : KeyPart) → PartStays c.at c.size (length c.new) q q' → 0 < c.size
    → 0 < d.size → IsBeside c d → q.span.start ≡ d.at → q.span.end ≡ d.at + d.size
    → (q'.span.start ≡ moved_by c d.at) × (q'.span.end ≡ moved_by c d.at + d.size)
place_moves c d q q' (ends_before before start end) some more side at to =
    let same : moved_by c d.at ≡ d.at = rw (lt-ltb d.at c.at (omega (arith, before, to, more))) refl in
    (omega (arith, start, at, same), omega (arith, end, to, same))
place_moves c d q q' (begins_there here start end) some more (inl far) at to =
    absurd (omega (arith, here, far, at, some))
place_moves c d q q' (begins_there here start end) some more (inr far) at to =
    absurd (omega (arith, here, far.0, at))
place_moves c d q q' (begins_after past start end) some more side at to =
    let same : moved_by c d.at + c.size ≡ d.at + length c.new =
    rw (le-ltb d.at c.at (omega (arith, past, at))) (omega (arith, past, at)) in
    (omega (arith, start, at, same), omega (arith, end, to, same))

-- ---- what is known of the other path

-- of what is mentioned nothing is at or under the new path, so neither is a path that is mentioned
clear_of : (b q : List Part) (ms : List Mention) → AllOf (IsDisjoint b) ms → list_any (is_at q) ms ≡ true → IsClear b q
clear_of b q [] h e = absurd cc
clear_of b q (m ∷ ms) h e = by (λ k. clear_of b q ms h.1 k) (is_at q m) refl e
  where
    by : (list_any (is_at q) ms ≡ true → IsClear b q) → (c : Bool) → is_at q m ≡ c
        → (c || list_any (is_at q) ms) ≡ true → IsClear b q
    by ih true at e = subst (IsClear b) (same_path-sound m.path q at) h.0
    by ih false at e = ih e

clear_numbered : (b : List Part) (ns : List Numbered) → AllOf (IsDisjoint b) (map mention_of ns)
    → AllOf (λ (n : Numbered). IsClear b n.mention.path) ns
clear_numbered b [] h = tt
clear_numbered b (n ∷ ns) h = (h.0, clear_numbered b ns h.1)

-- a change of paths
module _ (f : List Part → List Part) where
  first_moved : (ns : List Numbered)
      → first_number is_mark key_number (map (moved_numbered f) ns) ≡ first_number is_mark key_number ns
  first_moved [] = refl
  first_moved (n ∷ ns) =
      ap (λ (o : Option ℕ). cond (is_mark n.mention.kind) (Some n.before.keys) o) (first_moved ns)

  marks_moved : (ns : List Numbered)
      → count_by (λ (n : Numbered). is_mark n.mention.kind) (map (moved_numbered f) ns)
      ≡ count_by (λ (n : Numbered). is_mark n.mention.kind) ns
  marks_moved [] = refl
  marks_moved (n ∷ ns) =
      sum_by-cons (λ (n : Numbered). cond (is_mark n.mention.kind) 1 0) (moved_numbered f n) (map (moved_numbered f) ns)
      ∙ ap (λ (m : ℕ). cond (is_mark n.mention.kind) 1 0 + m) (marks_moved ns)
      ∙ sym (sum_by-cons (λ (n : Numbered). cond (is_mark n.mention.kind) 1 0) n ns)

  -- a path, and where it goes, where different paths stay different
  module _ (P : List Part → Type 0) (different : IsInjectiveOn P f) (q to : List Part) (has : P q) (is : f q ≡ to) where
    pub same_moved : (p : List Part) → P p → same_path (f p) to ≡ same_path p q
    same_moved p h = by (same_path (f p) to) (same_path p q) refl refl
      where
        by : (c d : Bool) → same_path (f p) to ≡ c → same_path p q ≡ d → c ≡ d
        by true true e k = refl
        by false false e k = refl
        by true false e k =
            let one : p ≡ q = different p q h has (same_path-sound (f p) to e ∙ sym is) in
            let yes : same_path p q ≡ true = ap (λ (x : List Part). same_path x q) one ∙ same_path-refl q in
            absurd cc
        by false true e k =
            let one : f p ≡ to = ap f (same_path-sound p q k) ∙ is in
            let yes : same_path (f p) to ≡ true = ap (λ (x : List Part). same_path x to) one ∙ same_path-refl to in
            absurd cc

    there_moved : (ns : List Numbered) → AllOf (λ (n : Numbered). P n.mention.path) ns
        → numbered_at to (map (moved_numbered f) ns) ≡ map (moved_numbered f) (numbered_at q ns)
    there_moved [] h = refl
    there_moved (n ∷ ns) h =
        ap₂ (λ (b : Bool) (l : List Numbered). cond b (moved_numbered f n ∷ l) l) (same_moved n.mention.path h.0)
        (there_moved ns h.1) ∙ by (same_path n.mention.path q)
      where
        by : (b : Bool)
            → cond b (moved_numbered f n ∷ map (moved_numbered f) (numbered_at q ns))
            (map (moved_numbered f) (numbered_at q ns))
            ≡ map (moved_numbered f) (cond b (n ∷ numbered_at q ns) (numbered_at q ns))
        by true = refl
        by false = refl

-- ---- after a rename

-- the numbers of a change that is at a place
pub record IsChangeAt {A : Type 0} (c : TextChange) (x : Changed A) : Type 0 where
  pub at : length x.before ≡ c.at
  pub size : length x.old ≡ c.size
  pub new : length x.new ≡ length c.new

pub change_at : {A : Type 0} (c : TextChange) (x : Changed A) → place_of x ≡ place_of_change c → IsChangeAt c x
change_at c x e =
    let at : length x.before ≡ c.at = ap (λ (p : Place). p.start) e in
    let end : length x.before + length x.old ≡ c.at + c.size = ap (λ (p : Place). p.end) e in
    record { at = at; size = omega (arith, at, end); new = ap (λ (p : Place). length p.new) e }

pub placed : (s : Document) (e : Edit) (x : Changed Document) (c : TextChange) → change s e ≡ Some x
    → place s e ≡ place_of_change c → place_of x ≡ place_of_change c
placed s e x c is at = ap (λ (o : Option (Changed Document)). place_of (changed_or_same s o)) (sym is) ∙ at

same_stay : (from size new from' size' new' : ℕ) (qs rs us : List KeyPart) → from ≡ from' → size ≡ size' → new ≡ new'
    → rs ≡ us → PartsStay from size new qs rs → PartsStay from' size' new' qs us
same_stay from size new from' size' new' qs rs us e f g k h =
    subst (λ (n : ℕ). PartsStay n size' new' qs us) e
    (subst (λ (n : ℕ). PartsStay from n new' qs us) f
    (subst (λ (n : ℕ). PartsStay from size n qs us) g (subst (PartsStay from size new qs) k h)))

not_root : (a c : Bool) → (a || c) ≡ true → a ≡ false → c ≡ true
not_root true c e below = absurd cc
not_root false c e below = e

module _ (profile : Profile) (limit : ℕ) (s : Document) (path : List Part) (text : List ℕ) (other : List Part)
    (more : List ℕ) (editable : IsEditable profile limit s) (utf8 : IsUtf8 text) (utf8_other : IsUtf8 more)
    (allowed : refusal profile limit s (rename path text) ≡ None)
    (allowed_other : refusal profile limit s (rename other more) ≡ None) (to : List Part)
    (goes : moved_path path (beside path text) other ≡ to) (ends : EndsInKey to) where
  abbrev edited : Document
  edited = edited_document s (rename path text)

  abbrev new_path : List Part
  new_path = beside path text

  abbrev moves : List Part → List Part
  moves = moved_path path new_path

  law : IsLawfulEdit profile limit s (rename path text)
  law = rename_lawful profile limit s path text editable utf8 allowed

  renamed : IsNodeRenamed path new_path s edited
  renamed = nodes_renamed profile limit s path text editable.valid editable.obeys utf8 allowed

  named : IsRenamable other more (mentions_in s)
  named = renamable profile limit s other more allowed_other

  clear : IsClear new_path other
  clear =
      clear_of new_path other (mentions_in s) renamed.clear
      (not_root (is_root other) (list_any (is_at other) (mentions_in s)) named.node named.below_root)

  -- the same is said where the other path goes, with the same numbers
  numbered_stays : numbered_at to (numbered_in edited)
      ≡ map (moved_numbered moves) (numbered_at other (numbered_in s))
  numbered_stays =
      ap (numbered_at to) renamed.moved.numbered
      ∙ there_moved moves (IsClear new_path) renamed.steps.different other to clear goes (numbered_in s)
      (clear_numbered new_path (numbered_in s)
      (subst (AllOf (IsDisjoint new_path)) (sym (mentions-numbered_in s)) renamed.clear))

  number_stays : (node_at (numbered_in edited) to).key ≡ (node_at (numbered_in s) other).key
  number_stays =
      ap (first_number is_mark key_number) numbered_stays ∙ first_moved moves (numbered_at other (numbered_in s))

  pub one_stays : mark_count to (mentions_in edited) ≡ 1
  one_stays =
      sym (marks_stated to edited) ∙ ap (count_by (λ (n : Numbered). is_mark n.mention.kind)) numbered_stays
      ∙ marks_moved moves (numbered_at other (numbered_in s)) ∙ marks_stated other s ∙ named.marks

  -- the other rename has a change then
  pub rename_goes_on : (next : Changed Document) × (change edited (rename to more) ≡ Some next)
  rename_goes_on =
      the_some (change edited (rename to more))
      (some_rename profile edited to more law.reads.valid (rules_of_document edited law.obeys) ends
      (some_counted to (mentions_in edited) (omega (arith, one_stays))))

  key_parts_stay : (c : TextChange) → place s (rename path text) ≡ place_of_change c
      → PartsStay c.at c.size (length c.new) (syntax.parts s) (syntax.parts edited)
  key_parts_stay c is =
      let x : Changed Document = law.changed in
      let there : IsChangeAt c x = change_at c x (placed s (rename path text) x c law.is is) in
      let same : x.to ≡ edited = ap (λ (o : Option (Changed Document)). (changed_or_same s o).to) (sym law.is) in
      same_stay (length x.before) (length x.old) (length x.new) c.at c.size (length c.new) (syntax.parts s)
      (syntax.parts x.to) (syntax.parts edited) there.at there.size there.new
      (ap (λ (u : Document). syntax.parts u) same)
      (subst (EachOf (λ (z : Changed Document).
      PartsStay (length z.before) (length z.old) (length z.new) (syntax.parts s) (syntax.parts z.to))) law.is
      (parts_stay s path text))

  -- a change of the other rename, and the one that it is then: where its key part is then, with the same new bytes
  module _ (c d e : TextChange) (is : place s (rename path text) ≡ place_of_change c)
      (is_other : place s (rename other more) ≡ place_of_change d) (fresh : d.new ≡ e.new)
      (leads : (q q' : KeyPart) → PartStays c.at c.size (length c.new) q q' → q.span.start ≡ d.at
      → q.span.end ≡ d.at + d.size → (q'.span.start ≡ e.at) × (q'.span.end ≡ e.at + e.size)) where
    -- the other rename replaces the key part with the same number then
    span_moves : (own now : Span)
        → key_span_of (syntax.parts s) (node_at (numbered_in s) other) ≡ Some own
        → key_span_of (syntax.parts edited) (node_at (numbered_in edited) to) ≡ Some now
        → own.start ≡ d.at → own.end ≡ d.at + d.size
        → (now.start ≡ e.at) × (now.end ≡ e.at + e.size)
    span_moves own now known known_now at end_at =
        let k : IsKnownPart (syntax.parts s) (node_at (numbered_in s) other).key own =
        known_part (syntax.parts s) (node_at (numbered_in s) other).key own known in
        let (q, here, stays) =
        part_stays c.at c.size (length c.new) k.at (syntax.parts s) (syntax.parts edited) k.part
        (key_parts_stay c is) k.here in
        let same : Some q.span ≡ Some now =
        ap (option_map (λ (p : KeyPart). p.span)) (sym here)
        ∙ ap (option_and_then (key_span (syntax.parts edited))) (sym (number_stays ∙ k.known)) ∙ known_now in
        let span : q.span ≡ now = cc in
        let (start, end) =
        leads k.part q stays (ap (λ (p : Span). p.start) k.is ∙ at) (ap (λ (p : Span). p.end) k.is ∙ end_at) in
        (ap (λ (p : Span). p.start) (sym span) ∙ start, ap (λ (p : Span). p.end) (sym span) ∙ end)

    pub place_stays : place edited (rename to more) ≡ place_of_change e
    place_stays =
        let y : IsLawfulEdit profile limit s (rename other more) =
        rename_lawful profile limit s other more editable utf8_other allowed_other in
        let own : IsKeyRenamed other more s y.changed =
        rename_placed other more s y.changed named.marks y.is in
        let (next, goes_on) = rename_goes_on in
        let now : IsKeyRenamed to more edited next = rename_placed to more edited next one_stays goes_on in
        let was : record { start = own.own.span.start; end = own.own.span.end; new = encoded_key more }
        ≡ place_of_change d = sym own.place ∙ placed s (rename other more) y.changed d y.is is_other in
        let (start, end) = span_moves own.own.span now.own.span own.span now.span (ap (λ (p : Place). p.start) was)
        (ap (λ (p : Place). p.end) was) in
        rename_place_is to more edited next now goes_on
        ∙ same_place now.own.span.start e.at now.own.span.end (e.at + e.size) (encoded_key more) e.new start end
        (ap (λ (p : Place). p.new) was ∙ fresh)

-- the place of the other rename then is the moved one
pub rename_place_stays : (profile : Profile) (limit : ℕ) (s : Document) (path : List Part) (text : List ℕ)
    (c : TextChange) (other : List Part) (more : List ℕ) (d : TextChange)
    → IsEditable profile limit s → RenamesKey profile limit s path text c → RenamesKey profile limit s other more d
    → ArePathsApart path text other more → IsBeside c d
    → place (edited_document s (rename path text)) (rename other more) ≡ place_of_change (moved c d)
rename_place_stays profile limit s path text c other more d editable h g apart side =
    let two = beside_is other more (mentions_in s) (renamable profile limit s other more g.allowed) in
    place_stays profile limit s path text other more editable h.utf8 g.utf8 h.allowed g.allowed other
    (disjoint_renamed path (beside path text) other apart.below) (ends_old more other (beside other more) two) c d
    (moved c d) h.is g.is refl (λ q q' stays. place_moves c d q q' stays h.some g.some side)
