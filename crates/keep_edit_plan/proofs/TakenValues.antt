-- An array or an inline table without an entry: its text is cut where the places say, and it is the value that the
-- remove of the entry makes.
--
-- What a remove makes of the entries is known (`TakenEntries`). In brackets all of it is one byte further on
-- (`finish`), and the text is the old one without the cut, since a remove is a change of the text (`removal-is`).
--
-- Theorems: `taken_value`: of a value; `taken_open`: of a text whose entries are known by their places; `item_hit`: the
-- item that an index names; `item_taken`, `keyval_taken`: an item of an array, a keyval of an inline table.
use Rattle.std.proofs.Common.{◌≡◌, ℕ, zero, suc, ◌+◌, ◌<◌, ◌≤◌, true, false, List, [], ◌∷◌, ◌++◌, length, drop, take}
use Rattle.std.proofs.Common.{refl, sym, ap, ◌∙◌, subst, arith, length-append, Some, None, inl, inr}
use Rattle.std.specs.Prelude.{codes, ◌==◌}
use Rattle.keep_types.specs.declared.leaf.Profile.TheVariants.{Strict}
use Rattle.keep_types.specs.declared.node.Kind.{Kind}
use Rattle.keep_types.specs.declared.node.Kind.TheVariants as kind
use Rattle.keep_types.specs.declared.syntax.Span.{Span}
use Rattle.keep_token.specs.Scanning.{first}
use Rattle.keep_token.proofs.Shared.{tested}
use Rattle.keep_syntax.specs.declared.info.Brackets.{Brackets}
use Rattle.keep_syntax.specs.declared.info.Brackets.TheVariants as bracket_pair
use Rattle.keep_syntax.specs.Tree.{Body, Entries, Gap, Value, array, comma_leaves, entry, inline, none, scalar}
use Rattle.keep_syntax.specs.Tree.{text_of, value_depth, value_text}
use Rattle.keep_syntax.specs.Grammar.{AreEntries, IsValue, Place, in_array, place_in}
use Rattle.keep_syntax.specs.Reading.{close_byte}
use Rattle.keep_syntax.proofs.Shared.{place_of}
use Rattle.keep_path.specs.Path.{Part, index, key, same_path}
use Rattle.keep_path.proofs.Shared.{path_decides}
use Rattle.keep_meaning.specs.Meaning.{body_fact}
use Rattle.keep_meaning.specs.Nodes.{fact_kind}
use Rattle.keep_rules.proofs.Shared.{in_wide}
use Rattle.keep_edit_spec.specs.Changed.{Changed, framed_change, within}
use Rattle.keep_edit_spec.specs.EntryChanges.{TakenEntryIsValue, TakesEntry}
use Rattle.keep_edit_spec.specs.Values.{Row, removal, take_out, text_of_value}
use Rattle.keep_edit_spec.proofs.Shared.{EachIs, put-place_of, removal-is, text_of-append}
use Rattle.keep_edit_plan.specs.OpenValues.{AreLaid, HoldsOpen, IsBracketed, TakesEntryText, first_gap}
use Rattle.keep_edit_plan.specs.OpenPlaces.{extent}
use Rattle.keep_edit_plan.specs.OpenKeyvals.{IsKeyedAt}
use Rattle.keep_edit_plan.specs.TakenEntries.{HasNoComma, IsCommaRun, IsCutOf, IsLastGap, places_left}
use Rattle.keep_edit_plan.specs.KeyNumbers.{HasKey}
use Rattle.keep_edit_plan.specs.declared.open_value.EntryPlace.{EntryPlace}
use Rattle.keep_edit_plan.specs.declared.open_value.key_numbers.KeyNumbers.{KeyNumbers}
use Rattle.keep_edit_plan.proofs.FirstParts.{parts_left}
use Rattle.keep_edit_plan.proofs.KeyedEntries.{value_hit}
use Rattle.keep_edit_plan.proofs.TakenEntries.{IsHit, IsTaken, round, taken_alone, taken_at_end, taken_with_comma}

-- What is made of a value: where its text is cut, and where the entries are that are left.
pub record IsTakenValue (v : Value) (path : List Part) (start end : ℕ) (left : List EntryPlace) : Type 0 where
  pub made : Changed Value
  pub by : removal path v ≡ Some made
  pub text : value_text made.to ≡ take start (value_text v) ++ drop end (value_text v)
  pub laid : AreLaid (first_gap made.to.body) made.to.nested left
  pub bracketed : IsBracketed made.to.body
  pub same : body_fact made.to.body ≡ body_fact v.body

-- ---- in brackets

-- the text of a value that is cut
cut_text : (path : List Part) (v : Value) (c : Changed Value) (start end : ℕ) → removal path v ≡ Some c
    → length c.before ≡ start → length c.before + length c.old ≡ end → c.new ≡ []
    → value_text c.to ≡ take start (value_text v) ++ drop end (value_text v)
cut_text path v c start end by eb eo en =
    put-place_of text_of_value v c (subst (EachIs text_of_value v) by (removal-is path v))
    ∙ ap (λ (n : ℕ). take n (value_text v) ++ (c.new ++ drop (length c.before + length c.old) (value_text v))) eb
    ∙ ap (λ (n : ℕ). take start (value_text v) ++ (c.new ++ drop n (value_text v))) eo
    ∙ ap (λ (t : List ℕ). take start (value_text v) ++ (t ++ drop end (value_text v))) en

-- arrays and inline tables, by their brackets
module _ (outer : Gap → Body) (opens closes : List ℕ) (one : length opens ≡ 1) (path : List Part)
    (is_removal : (gap : Gap) (nested : Entries) → removal path (record { body = outer gap; nested = nested })
    ≡ within (λ (r : Row). record { body = outer r.gap; nested = r.entries }) opens closes (take_out path 0 gap nested))
    (gap_is : (gap : Gap) → first_gap (outer gap) ≡ length (text_of gap))
    (brackets : (gap : Gap) → IsBracketed (outer gap))
    (same : (gap h : Gap) → body_fact (outer gap) ≡ body_fact (outer h)) where
  finish : (gap : Gap) (nested : Entries) (start size : ℕ) (left : List EntryPlace) (cut : Span)
      → IsTaken (take_out path 0 gap nested) start size 0 left → cut.start ≡ suc start → cut.end ≡ cut.start + size
      → IsTakenValue (record { body = outer gap; nested = nested }) path cut.start cut.end left
  finish gap nested start size left cut t es ee =
      let put : Row → Value = λ r. record { body = outer r.gap; nested = r.entries } in
      let v : Value = record { body = outer gap; nested = nested } in
      let c : Changed Value = framed_change put opens closes t.made in
      let by : removal path v ≡ Some c = is_removal gap nested ∙ ap (within put opens closes) t.by in
      let long : length c.before ≡ cut.start =
      omega (arith, length-append opens t.made.before, t.start_is) in
      record {
        made = c;
        by = by;
        text = cut_text path v c cut.start cut.end by long (omega (arith, t.size_is)) t.new_is;
        laid = subst (λ (n : ℕ). AreLaid n t.made.to.entries left)
            (let e : 0 + length (text_of t.made.to.gap) ≡ first_gap (outer t.made.to.gap) =
            omega (arith, gap_is t.made.to.gap) in e) t.laid;
        bracketed = brackets t.made.to.gap;
        same = same t.made.to.gap gap;
      }

  module _ (b : Brackets) (closed : (first closes == close_byte b) ≡ true) (bracket : ℕ) (gap : Gap) (nested : Entries)
      (bytes : List ℕ) (spelled : bytes ≡ bracket ∷ round [] gap nested closes)
      (valid : AreEntries Strict (place_of b) nested) (n : ℕ) (hit : IsHit path 0 n nested) where
    at_round : (P : List ℕ → Type 0) (m : ℕ) → P (drop (suc m) bytes) → P (drop m (round [] gap nested closes))
    at_round P m h = subst (λ (t : List ℕ). P (drop (suc m) t)) spelled h

    at_zero : (places : List EntryPlace) → AreLaid (first_gap (outer gap)) nested places
        → AreLaid (length {A = ℕ} [] + length (text_of gap)) nested places
    at_zero places laid =
        subst (λ (m : ℕ). AreLaid m nested places)
        (let e : first_gap (outer gap) ≡ length {A = ℕ} [] + length (text_of gap) = omega (arith, gap_is gap) in e) laid

    pub taken_in : (places : List EntryPlace) (cut : Span) (left : List EntryPlace)
        → AreLaid (first_gap (outer gap)) nested places → IsCutOf bytes places n cut left
        → IsTakenValue (record { body = outer gap; nested = nested }) path cut.start cut.end left
    taken_in places cut left laid (inl h) =
        let laid' : AreLaid (length {A = ℕ} [] + length (text_of gap)) nested (h.before ++ (h.here ∷ h.rest)) =
        subst (AreLaid (length {A = ℕ} [] + length (text_of gap)) nested) h.are (at_zero places laid) in
        let t = taken_with_comma b path closes closed h.here h.rest h.run 0 n [] gap nested h.before valid hit h.count
        laid' (at_round (IsCommaRun h.run) (extent h.before + (h.here.gap + h.here.len)) h.is_run) in
        finish gap nested (extent h.before + h.here.gap) (h.here.len + h.run) left cut
        (subst (IsTaken (take_out path 0 gap nested) (extent h.before + h.here.gap) (h.here.len + h.run) 0)
        (sym h.are_left) t) h.start h.end
    taken_in places cut left laid (inr (inl h)) =
        let laid' : AreLaid (length {A = ℕ} [] + length (text_of gap)) nested (h.before ++ (h.last ∷ h.here ∷ [])) =
        subst (AreLaid (length {A = ℕ} [] + length (text_of gap)) nested) h.are (at_zero places laid) in
        let hit' : IsHit path 0 (suc (length h.before)) nested =
        subst (λ (m : ℕ). IsHit path 0 m nested) (sym h.count) hit in
        let t = taken_at_end b path closes h.last h.here 0 (length h.before) [] gap nested h.before valid hit' refl
        laid' (at_round (IsLastGap h.here.gap h.here.len) (extent h.before + (h.last.gap + h.last.len)) h.gap) in
        finish gap nested (extent h.before + (h.last.gap + h.last.len)) (h.here.gap + h.here.len) left cut
        (subst (IsTaken (take_out path 0 gap nested) (extent h.before + (h.last.gap + h.last.len))
        (h.here.gap + h.here.len) 0) (sym h.are_left) t) h.start h.end
    taken_in places cut left laid (inr (inr h)) =
        let laid' : AreLaid (length {A = ℕ} [] + length (text_of gap)) nested (h.here ∷ []) =
        subst (AreLaid (length {A = ℕ} [] + length (text_of gap)) nested) h.are (at_zero places laid) in
        let hit' : IsHit path 0 0 nested = subst (λ (m : ℕ). IsHit path 0 m nested) h.count hit in
        let t = taken_alone path 0 [] gap nested closes h.here hit' laid'
        (at_round HasNoComma (h.here.gap + h.here.len) h.alone) in
        finish gap nested h.here.gap h.here.len left cut
        (subst (IsTaken (take_out path 0 gap nested) h.here.gap h.here.len 0) (sym h.are_left) t) h.start h.end

module _ (path : List Part) (bytes : List ℕ) (places : List EntryPlace) (n : ℕ) (cut : Span)
    (left : List EntryPlace) where
  pub taken_value : (v : Value) → bytes ≡ value_text v → IsValue Strict v → IsBracketed v.body
      → AreLaid (first_gap v.body) v.nested places → IsHit path 0 n v.nested → IsCutOf bytes places n cut left
      → IsTakenValue v path cut.start cut.end left
  taken_value v spelled valid brackets laid hit h = by v.body v.nested spelled valid brackets laid hit
    where
      by : (body : Body) (nested : Entries) → bytes ≡ value_text (record { body = body; nested = nested })
          → IsValue Strict (record { body = body; nested = nested }) → IsBracketed body
          → AreLaid (first_gap body) nested places → IsHit path 0 n nested
          → IsTakenValue (record { body = body; nested = nested }) path cut.start cut.end left
      by (scalar w) nested spelled valid brackets laid hit = absurd brackets
      by (array gap) nested spelled valid brackets laid hit =
          taken_in array (codes "[") (codes "]") refl path (λ g es. refl) (λ g. refl) (λ g. tt) (λ g g'. refl)
          bracket_pair.Array refl 0x5B gap nested bytes (spelled ∙ simp text_of-append refl) valid.nested n hit places
          cut left laid h
      by (inline gap) nested spelled valid brackets laid hit =
          taken_in inline (codes "{") (codes "}") refl path (λ g es. refl) (λ g. refl) (λ g. tt) (λ g g'. refl)
          bracket_pair.Inline refl 0x7B gap nested bytes (spelled ∙ simp text_of-append refl) valid.nested n hit places
          cut left laid h

-- ---- which entry an index names

same_true : (k m : ℕ) → k ≡ m → same_path (index k ∷ []) (index m ∷ []) ≡ true
same_true k m e = (path_decides (index k ∷ []) (index m ∷ [])).1 (ap (λ (i : ℕ). index i ∷ []) e)

same_false : (k m : ℕ) → k < m → same_path (index k ∷ []) (index m ∷ []) ≡ false
same_false k m lt =
    elim (tested (same_path (index k ∷ []) (index m ∷ []))) [
      | inr e ↦ e
      | inl e ↦
          absurd (let same : index k ∷ [] ≡ index m ∷ [] = (path_decides (index k ∷ []) (index m ∷ [])).0 e in
          let k_is : k ≡ m = cc in omega arith)
    ]

pub item_hit : (gap : ℕ) (es : Entries) (places : List EntryPlace) (k n m : ℕ) → AreEntries Strict in_array es
    → AreLaid gap es places → n < length places → m ≡ k + n → IsHit (index m ∷ []) k n es
item_hit gap none [] k n m valid laid few e = absurd (omega arith)
item_hit gap none (p ∷ ps) k n m valid laid few e = absurd laid
item_hit gap (entry name body nested after comma rest) [] k n m valid laid few e = absurd laid
item_hit gap (entry (Some name) body nested after comma rest) (p ∷ ps) k n m valid laid few e = absurd valid.0
item_hit gap (entry None body nested after comma rest) (p ∷ ps) k zero m valid laid few e =
    same_true k m (omega arith)
item_hit gap (entry None body nested after comma rest) (p ∷ ps) k (suc n) m valid laid few e = (
  same_false k m (omega arith),
  item_hit (length (text_of after) + length (text_of (comma_leaves comma))) rest ps (k + 1) n
      m valid.5 laid.1.1 (omega arith) (omega arith),
)

-- ---- the text

bracketed_deep : (body : Body) (nested : Entries) → IsBracketed body
    → 1 ≤ value_depth (record { body = body; nested = nested })
bracketed_deep (scalar w) nested h = absurd h
bracketed_deep (array gap) nested h = omega arith
bracketed_deep (inline gap) nested h = omega arith

-- what is known of the text that is left
pub record IsTakenOpen (was : List ℕ) (keys : KeyNumbers) (kind : Kind) (depth : ℕ) (part : Part) (now : List ℕ)
    (left : List EntryPlace) : Type 0 where
  pub holds : HoldsOpen now left keys kind depth
  pub takes : TakesEntryText was part now

pub taken_open : TakenEntryIsValue → (was : List ℕ) (places : List EntryPlace) (keys : KeyNumbers) (kind : Kind)
    (depth n : ℕ) (part : Part) (cut : Span) (left : List EntryPlace) (now : List ℕ)
    (h : HoldsOpen was places keys kind depth) → depth ≡ 1
    → IsHit (part ∷ []) 0 n h.value.nested → IsCutOf was places n cut left
    → now ≡ take cut.start was ++ drop cut.end was
    → IsTakenOpen was keys kind depth part now left
taken_open law was places keys kind depth n part cut left now h flat hit is_cut now_is =
    let t = taken_value (part ∷ []) was places n cut left h.value h.read.reads.spelled h.strict h.bracketed h.laid hit
    is_cut in
    let takes : TakesEntry h.value part t.made.to = record { made = t.made; by = t.by; is = refl } in
    let (given, shallow) =
    law Strict h.value part t.made.to (record { valid = h.strict; obeys = h.read.obeys }) takes in
    let spelled : now ≡ value_text t.made.to =
    now_is ∙ ap (λ (b : List ℕ). take cut.start b ++ drop cut.end b) h.read.reads.spelled ∙ sym t.text in
    let deep : 1 ≤ value_depth t.made.to = bracketed_deep t.made.to.body t.made.to.nested t.bracketed in
    let reads = in_wide Strict now t.made.to (record {
      reads = record { valid = given.valid; spelled = spelled; shallow = omega (arith, h.read.reads.shallow) };
      obeys = given.obeys;
    }) in
    record {
      holds = record {
        value = t.made.to;
        read = reads;
        strict = given.valid;
        bracketed = t.bracketed;
        is = h.is ∙ ap fact_kind (sym t.same);
        deep = omega (arith, h.deep);
        laid = t.laid;
        known = parts_left (HasKey keys) (part ∷ []) h.value t.made t.by h.known;
      };
      takes = record { before = h.value; after = t.made.to; read = h.read; reads = reads; made = takes };
    }

-- an item of an array
is_array : (body : Body) → IsBracketed body → kind.Array ≡ fact_kind (body_fact body) → place_in body ≡ in_array
is_array (scalar w) h e = absurd h
is_array (array gap) h e = refl
is_array (inline gap) h e = absurd cc

pub item_taken : TakenEntryIsValue → (was : List ℕ) (places : List EntryPlace) (keys : KeyNumbers) (k : Kind)
    (depth n : ℕ) (cut : Span) (left : List EntryPlace) (now bytes : List ℕ) (these : List EntryPlace)
    → HoldsOpen was places keys k depth
    → k ≡ kind.Array → depth ≡ 1 → n < length places → bytes ≡ was → these ≡ places
    → IsCutOf bytes these n cut (places_left n cut these) → left ≡ places_left n cut places
    → now ≡ take cut.start was ++ drop cut.end was → IsTakenOpen was keys k depth (index n) now left
item_taken law was places keys k depth n cut left now bytes these h is flat few e f is_cut left_is now_is =
    let valid : AreEntries Strict in_array h.value.nested =
    subst (λ (p : Place). AreEntries Strict p h.value.nested) (is_array h.value.body h.bracketed (sym is ∙ h.is))
    h.strict.nested in
    let cut_here : IsCutOf was places n cut left =
    subst (IsCutOf was places n cut) (sym left_is)
    (subst (λ (ps : List EntryPlace). IsCutOf was ps n cut (places_left n cut ps)) f
    (subst (λ (b : List ℕ). IsCutOf b these n cut (places_left n cut these)) e is_cut)) in
    taken_open law was places keys k depth n (index n) cut left now h flat
    (item_hit (first_gap h.value.body) h.value.nested places 0 n n valid h.laid few (omega arith)) cut_here now_is

-- a keyval of an inline table
is_inline : (body : Body) → IsBracketed body → kind.Inline ≡ fact_kind (body_fact body)
    → (first : Gap) × (body ≡ inline first)
is_inline (scalar w) h e = absurd h
is_inline (array gap) h e = absurd cc
is_inline (inline gap) h e = (gap, refl)

pub keyval_taken : TakenEntryIsValue → (was : List ℕ) (places : List EntryPlace) (keys : KeyNumbers) (k : Kind)
    (depth n : ℕ) (name : List ℕ) (cut : Span) (left : List EntryPlace) (now bytes : List ℕ) (these : List EntryPlace)
    → HoldsOpen was places keys k depth → k ≡ kind.Inline → depth ≡ 1 → bytes ≡ was → these ≡ places
    → IsKeyedAt name bytes 1 n these → IsCutOf bytes these n cut (places_left n cut these)
    → left ≡ places_left n cut places → now ≡ take cut.start was ++ drop cut.end was
    → IsTakenOpen was keys k depth (key name) now left
keyval_taken law was places keys k depth n name cut left now bytes these h is flat e f keyed is_cut left_is now_is =
    let (first, body) = is_inline h.value.body h.bracketed (sym is ∙ h.is) in
    let laid : AreLaid (length (text_of first)) h.value.nested places =
    subst (λ (g : ℕ). AreLaid g h.value.nested places) (ap first_gap body) h.laid in
    let here : IsKeyedAt name was 1 n places =
    subst (λ (ps : List EntryPlace). IsKeyedAt name was 1 n ps) f
    (subst (λ (b : List ℕ). IsKeyedAt name b 1 n these) e keyed) in
    let cut_here : IsCutOf was places n cut left =
    subst (IsCutOf was places n cut) (sym left_is)
    (subst (λ (ps : List EntryPlace). IsCutOf was ps n cut (places_left n cut ps)) f
    (subst (λ (b : List ℕ). IsCutOf b these n cut (places_left n cut these)) e is_cut)) in
    taken_open law was places keys k depth n (key name) cut left now h flat
    (value_hit name was places n first h.value h.read.reads.spelled h.strict body laid here) cut_here now_is
