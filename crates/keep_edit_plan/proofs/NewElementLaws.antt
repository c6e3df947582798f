-- A new element at the end of a document: the index tells how many its array has, and its header is appended.
--
-- The way of its keys is that of a new table's (NewTableLaws), but for the last key. There is an array of tables, or no
-- node (`nothing_there`). The last node below an array is the last element, which headers go into (`enters_tables`). As
-- the code finds it by the number that it has below the array, that is the element's number too, so there are as many
-- elements as nodes (`elements_there`).
--
-- Theorems: `nothing_there`, `elements_there` for the last key, `all_lead_elements` for all, and
-- `element_appends_here` for the header.
use Rattle.std.proofs.Common.{◌≡◌, ◌≤◌, ◌+◌, ◌-◌, ◌==◌, ℕ, zero, suc, false, true, Bool, cond, List, [], ◌∷◌, ◌++◌, map}
use Rattle.std.proofs.Common.{drop, subst, refl, sym, ap, ◌∙◌, arith, Option, Some, None, Ok, slice_get, String, length}
use Rattle.std.proofs.Common.{length-append}
use Rattle.std.specs.Global.{Global}
use Rattle.std.specs.Prelude.{IfSome, string_bytes}
use Rattle.std.proofs.lemmas.List.{append-nil, at_drop_all, map-append}
use Rattle.std.proofs.lemmas.Bool.Decides.{nat_tests}
use Rattle.keep_types.specs.declared.node.NodeInfo.{NodeInfo}
use Rattle.keep_types.specs.declared.node.Origin.TheVariants as origin
use Rattle.keep_syntax.specs.Tree as tree
use Rattle.keep_syntax.specs.Tree.{Document}
use Rattle.keep_path.specs.NodeInfos.{NodeInfos}
use Rattle.keep_path.specs.Path.{Part, index, key, last_part}
use Rattle.keep_meaning.specs.Marks.{elements_of}
use Rattle.keep_meaning.specs.Meaning.{mentions_in}
use Rattle.keep_meaning.specs.Nodes.{node_number}
use Rattle.keep_rules.specs.declared.index.NodeId.{NodeId}
use Rattle.keep_rules.specs.Lookup.{children_numbered, nth_child, number_of, path_numbered}
use Rattle.keep_rules.specs.ReadDocuments.{IsIndexOf}
use Rattle.keep_rules.proofs.Shared.{number_is}
use Rattle.keep_edit_spec.specs.Changed.{Place}
use Rattle.keep_edit_spec.specs.Edits.{append_element, key_with}
use Rattle.keep_edit_spec.specs.FilledTables.{AppendsNewElement}
use Rattle.keep_edit_spec.specs.Look.{is_bracket_at}
use Rattle.keep_edit_spec.specs.Refusals.{tables_in}
use Rattle.keep_edit_spec.specs.TextEnds.{ends_in_newline}
use Rattle.keep_edit_spec.proofs.Shared.{append_place, last_part-snoc}
use Rattle.keep_edit_plan.specs.Headers.{entered_in, key_texts}
use Rattle.keep_edit_plan.specs.NewTables.{HasElements, LeadToElements}
use Rattle.keep_edit_plan.specs.Plans.{EditPlanned}
use Rattle.keep_edit_plan.specs.Reading.{limit, IsTextOfTree, ProfiledText}
use Rattle.keep_edit_plan.specs.TextEdits.{change_of}
use Rattle.keep_edit_plan.specs.declared.plan.Plan.{Plan}
use Rattle.keep_edit_plan.proofs.AppendDone.{keys_utf8}
use Rattle.keep_edit_plan.proofs.HeaderLaws.{enters_tables, number_there, stated_there}
use Rattle.keep_edit_plan.proofs.NewTableLaws.{LeadOn, flat_unless, header_made, leads_there, no_value}
use Rattle.keep_edit_plan.proofs.NewTableLaws.{passable_at_none, passes, root_flat}

-- ---- the last key

-- Where the way ends, the last key leads to so many elements.
abbrev pub EndsIn : Document → List ℕ → ℕ → List Part → Type 0
EndsIn s last number at = HasElements s (at ++ key last ∷ []) number

-- the element that is entered has the number before that of the elements
number_entered : (path : List Part) (n last : ℕ)
    → cond (0 == n) path (path ++ index (n - 1) ∷ []) ≡ path ++ index last ∷ [] → n ≡ last + 1
number_entered path zero last e =
    let longer : path ≡ path ++ index last ∷ [] = e in
    absurd (omega (arith, ap (λ (p : List Part). length p) longer, length-append path (index last ∷ [])))
number_entered path (suc n) last e =
    let some : (0 == suc n) ≡ false = grind (arith, nat_tests) in
    let entered : path ++ index (suc n - 1) ∷ [] ≡ path ++ index last ∷ [] =
    ap (λ (b : Bool). cond b path (path ++ index (suc n - 1) ∷ [])) (sym some) ∙ e in
    let same : Some (index (suc n - 1)) ≡ Some (index last) =
    sym (last_part-snoc path (index (suc n - 1))) ∙ ap last_part entered ∙ last_part-snoc path (index last) in
    let number : suc n - 1 ≡ last = cc in
    omega (arith, number)

module _ (s : Document) (t : NodeInfos) (h : IsIndexOf s t) where
  pub ends_at_none : (last : List ℕ) (at : List Part) → ((more : List Part) → node_number t.paths (at ++ more) ≡ None)
      → EndsIn s last 0 at
  ends_at_none last at none = passable_at_none s t h (at ++ key last ∷ []) (none (key last ∷ []))

  pub nothing_there : (at : List Part) (k : List ℕ) (o : Option NodeId) → o ≡ None
      → number_of o ≡ node_number t.paths (at ++ key k ∷ []) → HasElements s (at ++ key k ∷ []) 0
  nothing_there at k o is found = passable_at_none s t h (at ++ key k ∷ []) (sym found ∙ ap number_of is)

  module _ (at : List Part) (k : List ℕ) (id : NodeId) (info : NodeInfo) (o : Option NodeId) (one : o ≡ Some id)
      (found : number_of o ≡ node_number t.paths (at ++ key k ∷ [])) (there : slice_get t.infos id.0 ≡ Some info)
      (tables : info.origin ≡ origin.Tables) where
    number : node_number t.paths (at ++ key k ∷ []) ≡ Some id.0
    number = sym found ∙ ap number_of one

    flat_there : is_bracket_at (mentions_in s) (at ++ key k ∷ []) ≡ false
    flat_there =
        flat_unless (at ++ key k ∷ []) s h.obeys
        (no_value (at ++ key k ∷ []) s info
        (stated_there s t h (at ++ key k ∷ []) id.0 info
        (number_there s t h (at ++ key k ∷ []) (Some id.0) (sym number)) there)
        (λ n e. let other : origin.Tables ≡ origin.Value n = sym tables ∙ e in cc))

    -- the last node below is found by its number there
    pub elements_there : (count last : ℕ) → count ≡ length (children_numbered t id.0) → count ≡ last + 1
        → (element : NodeId)
        → node_number t.paths (path_numbered t id.0 ++ index last ∷ []) ≡ Some element.0
        → (child : Option NodeId) → number_of child ≡ nth_child t id.0 last → number_of child ≡ Some element.0
        → HasElements s (at ++ key k ∷ []) count
    elements_there count last many more element named child below same = record {
      counted =
          number_entered (at ++ key k ∷ []) (elements_of (at ++ key k ∷ []) (tables_in (mentions_in s))) last
          (entered child below same) ∙ sym more;
      flat = flat_there;
    }
      where
        at_end : last ≡ length (children_numbered t id.0) - 1
        at_end = omega (arith, many, more)

        entered : (child : Option NodeId) → number_of child ≡ nth_child t id.0 last → number_of child ≡ Some element.0
            → entered_in s (at ++ key k ∷ []) ≡ (at ++ key k ∷ []) ++ index last ∷ []
        entered None below same = absurd cc
        entered (Some next) below same =
            let one_node : next.0 ≡ element.0 = cc in
            let enters =
            enters_tables s t h at k id info o one found there tables (Some next)
            (below ∙ ap (nth_child t id.0) at_end) in
            sym enters.2 ∙ ap (path_numbered t) one_node
            ∙ (number_is t.paths (path_numbered t id.0 ++ index last ∷ []) element.0 named).1
            ∙ ap (λ (p : List Part). p ++ index last ∷ []) (number_is t.paths (at ++ key k ∷ []) id.0 number).1

-- ---- all keys

pub split_last : (keys way : List (String Global)) (last : String Global) → keys ≡ way ++ last ∷ []
    → key_texts keys ≡ key_texts way ++ string_bytes last ∷ []
split_last keys way last e = ap key_texts e ∙ map-append string_bytes way (last ∷ [])

pub none_left : (s : Document) (End : List Part → Type 0) (at : List Part) (way : List (String Global)) (i : ℕ)
    → length way ≤ i → End at → LeadOn s End at (key_texts (drop i way))
none_left s End at way i past here =
    subst (LeadOn s End at) (sym (at_drop_all key_texts way i past)) here

-- what comes before a further key comes before the last
split_before : (way xs rest : List (List ℕ)) (last l : List ℕ) → way ++ last ∷ [] ≡ xs ++ l ∷ rest
    → (more : List (List ℕ)) × (way ≡ xs ++ more)
split_before way [] rest last l e = (way, refl)
split_before [] (x ∷ xs) rest last l e =
    absurd (omega (arith, ap (λ (ks : List (List ℕ)). length ks) e, length-append xs (l ∷ rest)))
split_before (w ∷ way) (x ∷ xs) rest last l e =
    let first : w ≡ x = cc in
    let later : way ++ last ∷ [] ≡ xs ++ l ∷ rest = cc in
    let r = split_before way xs rest last l later in
    (r.0, ap (λ (y : List ℕ). y ∷ way) first ∙ ap (λ (ys : List (List ℕ)). x ∷ ys) r.1)

module _ (s : Document) (t : NodeInfos) (h : IsIndexOf s t) (keys way : List (List ℕ)) (last : List ℕ) (n : ℕ)
    (split : keys ≡ way ++ last ∷ []) (on : LeadOn s (EndsIn s last n) [] way) where
  whole : map key keys ≡ map key way ++ key last ∷ []
  whole = ap (map key) split ∙ map-append key way (last ∷ [])

  end : HasElements s (map key way ++ key last ∷ []) n
  end = leads_there s t h (EndsIn s last n) [] way on

  flat_whole : (ks : List (List ℕ)) → keys ≡ ks ++ [] → is_bracket_at (mentions_in s) (map key ks) ≡ false
  flat_whole ks e =
      ap (λ (x : List (List ℕ)). is_bracket_at (mentions_in s) (map key x)) (sym (append-nil ks) ∙ sym e)
      ∙ ap (is_bracket_at (mentions_in s)) whole ∙ end.flat

  before : (k : List ℕ) (ks : List (List ℕ)) (l : List ℕ) (rest : List (List ℕ)) → keys ≡ k ∷ ks ++ l ∷ rest
      → HasElements s (map key (k ∷ ks)) 0
  before k ks l rest e =
      let (more, is) = split_before way (k ∷ ks) rest last l (sym split ∙ e) in
      passes s t h (EndsIn s last n) [] way k ks more on is

  flat_before : (ks rest : List (List ℕ)) → keys ≡ ks ++ rest → is_bracket_at (mentions_in s) (map key ks) ≡ false
  flat_before ks [] e = flat_whole ks e
  flat_before [] (l ∷ rest) e = root_flat s t h
  flat_before (k ∷ ks) (l ∷ rest) e = (before k ks l rest e).flat

  pub all_lead_elements : LeadToElements s keys n
  all_lead_elements = record {
    counted = ap (λ (p : List Part). elements_of p (tables_in (mentions_in s))) whole ∙ end.counted;
    no_elements = λ k ks l rest e. (before k ks l rest e).counted;
    no_brackets = flat_before;
  }

-- what is known of a number that is found
pub number_found : {A B : ℕ → Type 0} (o : Option ℕ) → IfSome o A → ((n : ℕ) → A n → B n) → IfSome o B
number_found None h then = tt
number_found (Some n) h then = then n h

-- ---- the header

pub element_appends_here : (now : ProfiledText) (keys : List (String Global)) (n : ℕ) (plan : Plan) (s : Document)
    → IsTextOfTree now s → ends_in_newline now.text ≡ true
    → EditPlanned s (append_element (key_texts keys)) now (Ok plan)
    → plan.text_edit.place.start ≤ plan.text_edit.place.end → LeadToElements s (key_texts keys) n
    → AppendsNewElement now.profile limit s (key_texts keys) n (change_of plan.text_edit)
element_appends_here now keys n plan s read late planned ordered lead =
    let at = append_place now.profile s read.reads.valid (tree.element [] (key_with (key_texts keys)) []) in
    let made =
    header_made now (append_element (key_texts keys)) plan s read late planned ordered
    (ap (λ (p : Place). p.start) at ∙ sym (ap (λ (p : Place). p.end) at)) in
    record {
      appends = record {
        utf8 = keys_utf8 keys;
        allowed = made.allowed;
        closed = made.closed;
        adds = made.adds;
        is = made.is;
      };
      counted = lead.counted;
      no_elements = lead.no_elements;
      no_brackets = lead.no_brackets;
    }
