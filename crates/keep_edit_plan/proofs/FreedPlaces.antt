-- An edit of a text that frees its place for a new line: it takes bytes and writes none, and where the others are made
-- a line that says something is right before those.
--
-- The edits before it end where it begins, or before that, and those after it begin where it ends, or later. So the
-- text with the others is that up to where it begins, with those before it, and then the rest with those after it
-- (`text_without`). It is moved to the end of that first part, since the edits after it move nothing there
-- (`moved_before`). So a line that ends the first part is right before it in the whole (`says_still`).
--
-- The first part is written edit by edit, as a whole text is. Each edit before it is within the text up to where it
-- begins (`within_text`), so that text stands for the whole here: characters begin there where they do in the whole
-- (`cut_boundary`, `whole_boundary`).
--
-- Theorems: `numbered`, `change_within`: the edit with a number; `found_says`, `is_freed`: such an edit frees its
-- place; `none_before`, `next_later`, `next_there`, `one_before`, `all_before`: the text before it, as it is written;
-- `there_too`: where its characters begin.
use Rattle.std.proofs.Common.{◌≡◌, ℕ, zero, suc, ◌+◌, ◌-◌, ◌<◌, ◌≤◌, List, [], ◌∷◌, ◌++◌, length, get_or, take, drop}
use Rattle.std.proofs.Common.{map, slice_range, string_bytes, All, IfSome, IsCharBoundary, IsUtf8, None, Option, Some}
use Rattle.std.proofs.Common.{true, refl, sym, ap, ap₂, ◌∙◌, subst, subst₂, append_assoc, drop-cons, arith, inl, inr}
use Rattle.std.proofs.lemmas.Bool.{cases_lt, lt-ltb}
use Rattle.std.proofs.lemmas.List.{drop-append-le, drop_all, get_or-map, get_or-take, get_or_at, get_or_default}
use Rattle.std.proofs.lemmas.List.{length-drop, length-map, length-take-le, map-append, take-append-drop}
use Rattle.std.proofs.lemmas.List.{take-append-le, take-map, take-take, take_at}
use Rattle.std.proofs.lemmas.List.Elements.{All-map, All-take}
use Rattle.std.proofs.lemmas.Str.{IsUtf8-take}
use Rattle.std.specs.Option.{is_some}
use Rattle.keep_types.specs.declared.syntax.Span.{Span}
use Rattle.keep_edit_spec.specs.LinesInPlace.{FreesPlace}
use Rattle.keep_edit_spec.specs.SaidLines.{SaysBefore}
use Rattle.keep_edit_spec.specs.TextChanges.{Follow, TextChange, come_to, gone_to, moved_by_all, text_with}
use Rattle.keep_edit_spec.proofs.Shared.{starts_there}
use Rattle.keep_edit_plan.specs.SaidSpans.{IsSaidSpan}
use Rattle.keep_edit_plan.specs.declared.text_edit.TextEdit.{TextEdit}
use Rattle.keep_edit_plan.specs.TextEdits.{IsChangeIn, IsFreed, IsOrdered, IsTextBefore, change_of}
use Rattle.keep_edit_plan.proofs.TextEditLaws.{IsWrittenTo, change_at_edit, follow_apart, next_change, none_written}
use Rattle.keep_edit_plan.proofs.TextEditLaws.{one_written, part_is, start_of}

-- ---- the text without one of the changes

-- none of those before a change begins before the byte `from`, nor does that one
low : (from : ℕ) (before after : List TextChange) (c : TextChange) → Follow from (before ++ c ∷ after) → from ≤ c.at
low from [] after c h = h.0
low from (x ∷ before) after c h = omega (arith, low (x.at + x.size) before after c h.1, h.0)

follow_before : (from : ℕ) (before after : List TextChange) (c : TextChange) → Follow from (before ++ c ∷ after)
    → Follow from before
follow_before from [] after c h = tt
follow_before from (x ∷ before) after c h = (h.0, follow_before (x.at + x.size) before after c h.1)

follow_after : (from : ℕ) (before after : List TextChange) (c : TextChange) → Follow from (before ++ c ∷ after)
    → Follow (c.at + c.size) after
follow_after from [] after c h = h.1
follow_after from (x ∷ before) after c h = follow_after (x.at + x.size) before after c h.1

-- the bytes from one on, cut at another
cut_bytes : (from at : ℕ) (w : List ℕ) → from ≤ at → drop from w ≡ drop from (take at w) ++ drop at w
cut_bytes zero at w h = sym (take-append-drop at w)
cut_bytes (suc from) zero w h = absurd (omega (arith, h))
cut_bytes (suc from) (suc at) [] h = refl
cut_bytes (suc from) (suc at) (x ∷ w) h = cut_bytes from at w (omega (arith, h))

-- so with changes that begin later
cut_text : (from at size : ℕ) (bytes : List ℕ) (after : List TextChange) → from ≤ at → Follow (at + size) after
    → text_with from bytes after ≡ drop from (take at bytes) ++ text_with at bytes after
cut_text from at size bytes [] less h = cut_bytes from at bytes less
cut_text from at size bytes (x ∷ after) less h =
    let w : List ℕ = take x.at bytes in
    let rest : List ℕ = x.new ++ text_with (x.at + x.size) bytes after in
    let cut : take at w ≡ take at bytes = take-take at x.at bytes (omega (arith, h.0)) in
    ap (λ (t : List ℕ). t ++ rest)
    (cut_bytes from at w less ∙ ap (λ (t : List ℕ). drop from t ++ drop at w) cut)
    ∙ append_assoc (drop from (take at bytes)) (drop at w) rest

text_without : (from : ℕ) (bytes : List ℕ) (before after : List TextChange) (c : TextChange)
    → Follow from (before ++ c ∷ after)
    → text_with from bytes (before ++ after)
    ≡ text_with from (take c.at bytes) before ++ text_with c.at bytes after
text_without from bytes [] after c h = cut_text from c.at c.size bytes after h.0 h.1
text_without from bytes (x ∷ before) after c h =
    let past : x.at + x.size ≤ c.at = low (x.at + x.size) before after c h.1 in
    let rest : List ℕ = text_with c.at bytes after in
    let p : List ℕ = text_with (x.at + x.size) (take c.at bytes) before in
    ap₂ (λ (a t : List ℕ). drop from a ++ (x.new ++ t)) (sym (take-take x.at c.at bytes (omega (arith, past))))
    (text_without (x.at + x.size) bytes before after c h.1)
    ∙ ap (λ (t : List ℕ). drop from (take x.at (take c.at bytes)) ++ t) (sym (append_assoc x.new p rest))
    ∙ sym (append_assoc (drop from (take x.at (take c.at bytes))) (x.new ++ p) rest)

-- ---- where the change begins

-- changes that begin later move nothing
none_later : (from at : ℕ) (after : List TextChange) → at < from → Follow from after
    → (come_to at after ≡ 0) × (gone_to at after ≡ 0)
none_later from at [] less h = (refl, refl)
none_later from at (x ∷ after) less h =
    let before : at < x.at = omega (arith, less, h.0) in
    let (come, gone) = none_later (x.at + x.size) at after (omega (arith, before)) h.1 in (
      rw (lt-ltb at x.at before) (omega (arith, come)),
      rw (lt-ltb at x.at before) (omega (arith, gone)),
    )

counts_before : (from at : ℕ) (before after : List TextChange) → at < from → Follow from after
    → (come_to at (before ++ after) ≡ come_to at before) × (gone_to at (before ++ after) ≡ gone_to at before)
counts_before from at [] after less h = none_later from at after less h
counts_before from at (x ∷ before) after less h =
    let (come, gone) = counts_before from at before after less h in (omega (arith, come), omega (arith, gone))

moved_before : (from at : ℕ) (before after : List TextChange) → at < from → Follow from after
    → moved_by_all (before ++ after) at ≡ moved_by_all before at
moved_before from at before after less h =
    let (come, gone) = counts_before from at before after less h in
    ap₂ (λ (n m : ℕ). (at + n) - m) come gone

-- ---- the line before it

-- A line at the end of a text is there still where more comes behind it.
says_still : (p q : List ℕ) → SaysBefore p (length p) → SaysBefore (p ++ q) (length p)
says_still p q h =
    let many : ℕ = suc (length h.line) in
    record {
      from = h.from;
      line = h.line;
      ends = h.ends;
      is = ap (take many) (drop-append-le h.from p q (omega (arith, h.ends)))
          ∙ take-append-le many (drop h.from p) q (omega (arith, h.ends, length-drop h.from p))
          ∙ h.is;
      said = h.said;
    }

-- The text says something where such a line is found.
pub found_says : (bytes : List ℕ) (at : ℕ) (line : Option Span) → IfSome line (IsSaidSpan bytes at)
    → is_some line ≡ true → SaysBefore bytes at
found_says bytes at None h is = absurd cc
found_says bytes at (Some line) h is = h.says

frees_place : (bytes : List ℕ) (before after : List TextChange) (c : TextChange) (place : ℕ) (new : List ℕ)
    → Follow 0 (before ++ c ∷ after) → c.at ≤ length bytes → 0 < c.size → c.new ≡ [] → c.at + c.size ≡ place
    → new ≡ text_with 0 (take c.at bytes) before → SaysBefore new (length new)
    → FreesPlace bytes (before ++ after) c place
frees_place bytes before after c place new h within some none ends is says =
    let p : List ℕ = text_with 0 (take c.at bytes) before in
    let q : List ℕ = text_with c.at bytes after in
    let at : moved_by_all (before ++ after) c.at ≡ length p =
    moved_before (c.at + c.size) c.at before after (omega (arith, some)) (follow_after 0 before after c h)
    ∙ sym (starts_there bytes before after c within h) in
    let there : SaysBefore (p ++ q) (length p) =
    says_still p q (subst (λ (t : List ℕ). SaysBefore t (length t)) is says) in
    record {
      some = some;
      takes = none;
      next = ends;
      said = subst₂ (λ (t : List ℕ) (n : ℕ). SaysBefore t n) (sym (text_without 0 bytes before after c h)) (sym at)
          there;
    }

-- ---- the edit with a number

-- The edit has this number among edits of this text.
pub record IsNumbered (bytes : List ℕ) (ts : List TextEdit) (n : ℕ) (t : TextEdit) : Type 0 where
  pub less : n < length ts
  pub is : t ≡ get_or ts n t
  pub within : All (IsChangeIn bytes) (map change_of ts)
  pub follow : Follow 0 (map change_of ts)
  pub ordered : All IsOrdered ts

-- It has, if the edits are these changes.
pub numbered : (bytes : List ℕ) (changes : List TextChange) (ts : List TextEdit) (n : ℕ) (t : TextEdit)
    → map change_of ts ≡ changes → n < length changes → t ≡ get_or ts n t → All (IsChangeIn bytes) changes
    → Follow 0 (map change_of ts) → All IsOrdered ts → IsNumbered bytes ts n t
numbered bytes changes ts n t are less is within follow ordered = record {
  less = omega (arith, less, ap length are, length-map ts change_of);
  is = is;
  within = subst (λ (cs : List TextChange). All (IsChangeIn bytes) cs) (sym are) within;
  follow = follow;
  ordered = ordered;
}

-- a character of the text up to a byte begins where one of the whole does
cut_boundary : (bytes : List ℕ) (to k : ℕ) → to ≤ length bytes → k ≤ to → IsCharBoundary bytes k
    → IsCharBoundary (take to bytes) k
cut_boundary bytes to k within less h = (
  omega (arith, length-take-le to bytes within, less),
  λ more high.
      let inside : k < to = omega (arith, more, length-take-le to bytes within) in
      let same : get_or (take to bytes) k 0 ≡ get_or bytes k 0 = get_or-take to bytes k 0 inside in
      omega (arith, same, h.1 (omega (arith, inside, within)) (omega (arith, high, same))),
)

whole_boundary : (bytes : List ℕ) (to k : ℕ) → IsCharBoundary bytes to → IsCharBoundary (take to bytes) k
    → IsCharBoundary bytes k
whole_boundary bytes to k there h = elim (cases_lt k to) [
  | inl less ↦
      let same : get_or (take to bytes) k 0 ≡ get_or bytes k 0 = get_or-take to bytes k 0 less in
      let long : length (take to bytes) ≡ to = length-take-le to bytes there.0 in (
        omega (arith, less, there.0),
        λ more high. omega (arith, same, h.1 (omega (arith, less, long)) (omega (arith, high, same))),
      )
  | inr up ↦
      let same : to ≡ k = omega (arith, up, h.0, length-take-le to bytes there.0) in
      subst (IsCharBoundary bytes) same there
]

module _ (bytes : List ℕ) (ts : List TextEdit) (n : ℕ) (t : TextEdit) (p : IsNumbered bytes ts n t) where
  -- where it begins
  abbrev to : ℕ
  to = t.place.start

  -- the text up to there
  abbrev text : List ℕ
  text = take to bytes

  -- the edits before it
  abbrev earlier : List TextEdit
  earlier = take n ts

  -- the changes before its own, and those after it
  abbrev before : List TextChange
  before = map change_of earlier

  abbrev after : List TextChange
  after = map change_of (drop (suc n) ts)

  parts : map change_of ts ≡ before ++ change_of t ∷ after
  parts =
      ap (map change_of) (sym (take-append-drop n ts))
      ∙ ap (λ (rest : List TextEdit). map change_of (earlier ++ rest)) (drop-cons ts n t p.less)
      ∙ map-append change_of earlier (get_or ts n t ∷ drop (suc n) ts)
      ∙ ap (λ (x : TextEdit). before ++ change_of x ∷ after) (sym p.is)

  follows : Follow 0 (before ++ change_of t ∷ after)
  follows = subst (Follow 0) parts p.follow

  pub change_within : IsChangeIn bytes (change_of t)
  change_within =
      subst (λ (x : TextEdit). IsChangeIn bytes (change_of x)) (sym p.is)
      (change_at_edit (IsChangeIn bytes) ts n t p.less p.within)

  -- ---- it frees its place

  pub is_freed : (place : ℕ) (new : List ℕ) → to < place → t.place.end ≡ place → string_bytes t.new ≡ []
      → IsTextBefore bytes (map change_of ts) n new → SaysBefore new (length new)
      → IsFreed bytes (map change_of ts) place
  is_freed place new starts ends none is says =
      let many : length before ≡ n = length-map earlier change_of ∙ length-take-le n ts (omega (arith, p.less)) in
      record {
        before = before;
        c = change_of t;
        after = after;
        is = parts;
        frees = frees_place bytes before after (change_of t) place new follows change_within.starts.0
            (omega (arith, starts, ends)) none (omega (arith, starts, ends))
            (is before (change_of t) after parts many) says;
      }

  -- ---- the text before it, as it is written

  -- A character that begins there begins in the whole text.
  pub there_too : (k : ℕ) → IsCharBoundary text k → (k ≤ to) × IsCharBoundary bytes k
  there_too k h =
      let there : IsCharBoundary bytes to = change_within.starts in
      (omega (arith, h.0, length-take-le to bytes there.0), whole_boundary bytes to k there h)

  -- The edits before it are of the text up to there.
  within_text : All (IsChangeIn text) before
  within_text = All-map (IsChangeIn text) change_of earlier each
    where
      one : (k : ℕ) (e : TextEdit) → k < n → IsChangeIn text (change_of (get_or ts k e))
      one k e less =
          let there : k < length ts = omega (arith, less, p.less) in
          let h = change_at_edit (IsChangeIn bytes) ts k e there p.within in
          let past = follow_apart 0 ts k n e p.follow less p.less in
          let at : start_of (get_or ts n e) ≡ to =
          ap start_of (get_or_default ts n e t p.less) ∙ ap start_of (sym p.is) in
          let c : TextChange = change_of (get_or ts k e) in
          let few : to ≤ length bytes = change_within.starts.0 in
          record {
            starts = cut_boundary bytes to c.at few (omega (arith, past, at)) h.starts;
            ends = cut_boundary bytes to (c.at + c.size) few (omega (arith, past, at)) h.ends;
          }

      each : (k : ℕ) (e : TextEdit) → k < length earlier → IsChangeIn text (change_of (get_or earlier k e))
      each k e less =
          let inside : k < n = omega (arith, less, length-take-le n ts (omega (arith, p.less))) in
          subst (λ (x : TextEdit). IsChangeIn text (change_of x)) (sym (get_or-take n ts k e inside)) (one k e inside)

  -- a part up to a byte there is one of the whole text
  part_up_to : (from at : ℕ) → from ≤ at → at ≤ to → slice_range bytes from at ≡ slice_range text from at
  part_up_to from at less high =
      part_is from at bytes less
      ∙ ap (drop from) (sym (take-take at to bytes high))
      ∙ sym (part_is from at text less)

  pub none_before : IsUtf8 bytes → IsWrittenTo text before [] 0 earlier
  none_before utf8 =
      none_written text earlier (IsUtf8-take bytes to utf8 change_within.starts)
      (follow_before 0 before after (change_of t) follows)

  module _ (out : List ℕ) (from i : ℕ) (h : IsWrittenTo text before out from (drop i earlier)) where
    module _ (x : TextEdit) (w : i < length earlier) (e : x ≡ get_or earlier i x) where
      -- The next one begins there or later.
      pub next_later : from ≤ x.place.start
      next_later =
          let next = subst (λ (rest : List TextEdit). Follow from (map change_of rest)) (drop-cons earlier i x w)
          h.follow in
          omega (arith, next.0, ap start_of e)

      pub next_there : (x.place.start ≤ to) × IsCharBoundary bytes x.place.start
      next_there = there_too x.place.start (next_change text earlier out from i x w e h within_text).starts

      pub one_before : (new : List ℕ) → new ≡ (out ++ slice_range bytes from x.place.start) ++ string_bytes x.new
          → IsWrittenTo text before new x.place.end (drop (i + 1) earlier)
      one_before new is =
          one_written text earlier out from i x w e h within_text (All-take IsOrdered n ts p.ordered) new
          (is ∙ ap (λ (part : List ℕ). (out ++ part) ++ string_bytes x.new)
          (part_up_to from x.place.start next_later next_there.0))

    -- With the rest up to there, all is written.
    pub all_before : (new : List ℕ) → length earlier ≤ i → new ≡ out ++ slice_range bytes from to
        → IsTextBefore bytes (map change_of ts) n new
    all_before new end is = λ front c later whole many.
        let last : IsWrittenTo text before out from [] =
        subst (λ (rest : List TextEdit). IsWrittenTo text before out from rest) (drop_all i earlier end) h in
        let fronts : front ≡ before =
        sym (take_at front (c ∷ later) n many) ∙ ap (take n) (sym whole) ∙ take-map change_of n ts in
        let one : c ≡ change_of t =
        sym (get_or_at front c later (change_of t) n many)
        ∙ ap (λ (cs : List TextChange). get_or cs n (change_of t)) (sym whole)
        ∙ get_or-map change_of ts n t (change_of t) p.less
        ∙ ap change_of (sym p.is) in
        is
        ∙ ap (λ (part : List ℕ). out ++ part) (part_is from to bytes (there_too from last.boundary).0)
        ∙ last.is
        ∙ ap₂ (λ (x : TextChange) (cs : List TextChange). text_with 0 (take x.at bytes) cs) (sym one) (sym fronts)
