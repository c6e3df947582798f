-- Where `insert` writes a line after keyvals that lead on by dots: found by the origins of the prefixes of the new
-- path.
--
-- A path of which dots are said has the origin `Dotted` (`dotted_origin`), a body or a value has not. So the longest
-- prefix without that origin is the base of the dots (`base_is`); if it has no value, the keyvals are on lines, and the
-- base is their body.
--
-- Theorem: `dotted_placed`.
use Rattle.std.proofs.Common.{◌≡◌, false, ℕ, zero, suc, ◌+◌, ◌-◌, ◌<◌, ◌≤◌, List, [], ◌∷◌, ◌++◌, length, map, take}
use Rattle.std.proofs.Common.{drop, slice_get, refl, sym, ap, subst, ◌∙◌, append_assoc, length-append, arith, Option}
use Rattle.std.proofs.Common.{Some, None, inl, inr}
use Rattle.keep_types.proofs.Shared.{one_of_two}
use Rattle.std.specs.List.{filter_map, list_any}
use Rattle.std.proofs.lemmas.Bool.{cases_lt}
use Rattle.std.proofs.lemmas.List.{length-map, map-append, take-append-drop}
use Rattle.keep_types.specs.declared.leaf.Profile.{Profile}
use Rattle.keep_types.specs.declared.syntax.Owner.TheVariants as owner
use Rattle.keep_types.specs.declared.syntax.Statement.{Statement}
use Rattle.keep_types.specs.declared.syntax.ValueInfo.{ValueInfo}
use Rattle.keep_syntax.specs.Tree.{Value, keyval, Document, text}
use Rattle.keep_syntax.specs.Grammar.{IsDocument}
use Rattle.keep_syntax.specs.Numbered as syntax
use Rattle.keep_path.specs.Path.{Part, key}
use Rattle.keep_types.specs.declared.node.Origin.TheVariants as origin
use Rattle.keep_meaning.specs.Marks.{start}
use Rattle.keep_meaning.specs.Meaning.{lines, mentions_in}
use Rattle.keep_meaning.specs.Counts.{is_value, line_statement, numbered_in, statements_in}
use Rattle.keep_meaning.specs.Nodes.{numbered_at, last_number, statement_number, value_number, is_define, is_begun}
use Rattle.keep_meaning.specs.Nodes.{is_dotted, is_element, is_through}
use Rattle.keep_edit_spec.specs.Edits.{insert, at_line, change, end_of, name_with}
use Rattle.keep_edit_spec.specs.Insertion.{line_at}
use Rattle.keep_edit_spec.specs.Lines.{newline_of, last_line, begins, leads_dotted, reading_at}
use Rattle.keep_edit_spec.specs.Look.{holder, is_index, item_number, keys_in}
use Rattle.keep_edit_spec.specs.Refusals.{refusal}
use Rattle.keep_edit_spec.proofs.Common.Runs.{SomeOf, Rules}
use Rattle.keep_edit_spec.proofs.Common.Doubles.{IsMentioned}
use Rattle.keep_edit_spec.proofs.Common.LineLaws.{EndsInKey}
use Rattle.keep_edit_spec.proofs.Common.ValueThere.{the_some}
use Rattle.keep_edit_spec.proofs.Insert.BodyPlaces.{headed_at}
use Rattle.keep_edit_spec.proofs.Insert.DottedBase.{IsDottedFrom, IsDottedIn, dotted_where}
use Rattle.keep_edit_spec.proofs.Insert.DottedPlace.{IsDottedAt, dotted_at}
use Rattle.keep_edit_spec.proofs.Insert.InsertDotted.{change_there}
use Rattle.keep_edit_spec.proofs.Insert.InsertPlaces.{keys_alone, no_end, none_of}
use Rattle.keep_edit_spec.proofs.Insert.LineBefore.{IsLowPlace, low_place, open_before, line_placed}
use Rattle.keep_edit_spec.proofs.Insert.LinesPut.{bom_width, line_begins}
use Rattle.keep_edit_spec.proofs.Insert.NewPath.{IsNewPath, new_path, drop_prefix_parts}
use Rattle.keep_edit_spec.proofs.Insert.OneBase.{IsBody, no_value, no_define, no_element, no_begun, body_no_dots}
use Rattle.keep_edit_spec.proofs.Insert.Origins.{origin_at, stated, IsDottedNode, dotted_node, dotted_ends}
use Rattle.keep_edit_spec.proofs.Insert.Origins.{dotted_first, mention_with_number, unsaid_of_none, no_root}
use Rattle.keep_edit_spec.proofs.Remove.RemoveSectionPlace.{IsHeaded}

-- ---- a path that dots are said of has that origin

pub dotted_origin : (x : List Part) (s : Document) → Rules (mentions_in s)
    → SomeOf (IsMentioned is_dotted x) (mentions_in s) → (n : ℕ) × (origin_at x s ≡ origin.Dotted n)
dotted_origin x s rules dots = by (stated is_dotted value_number x s) refl
  where
    never : (is : _) (number : _) → (SomeOf (IsMentioned is x) (mentions_in s) → ⊥) → stated is number x s ≡ None
    never is number none = none_of (stated is number x s) (λ n e. none (mention_with_number is number x s n e))

    by : (o : Option ℕ) → stated is_dotted value_number x s ≡ o → (n : ℕ) × (origin_at x s ≡ origin.Dotted n)
    by None e = absurd (unsaid_of_none is_dotted value_number x s e dots)
    by (Some n) e = (
      n,
      dotted_first (stated is_value value_number x s) (stated is_element statement_number x s)
          (stated is_begun statement_number x s) (stated is_define statement_number x s)
          (stated is_dotted value_number x s) (stated is_through statement_number x s) n
          (never is_value value_number (no_value x s rules dots))
          (never is_element statement_number (no_element x s rules dots))
          (never is_begun statement_number (no_begun x s rules dots))
          (never is_define statement_number (no_define x s rules dots)) e,
    )

-- ---- the base, by origins

-- The first so many steps of a path lead to what is no table of dots, and each longer prefix is one.
pub record IsBaseAt (s : Document) (a : List Part) (from : ℕ) : Type 0 where
  pub within : from ≤ length a
  pub base : (n : ℕ) → origin_at (take from a) s ≡ origin.Dotted n → ⊥
  pub dots : (n : ℕ) → from < n → n ≤ length a → (m : ℕ) × (origin_at (take n a) s ≡ origin.Dotted m)

take_prefix : (b c : List Part) → take (length b) (b ++ c) ≡ b
take_prefix [] [] = refl
take_prefix [] (y ∷ c) = refl
take_prefix (x ∷ b) c = ap (λ (l : List Part). x ∷ l) (take_prefix b c)

take_past : (b : List Part) (c : List Part) (k n : ℕ) → n ≡ length b + k → take n (b ++ c) ≡ b ++ take k c
take_past [] c k n e = ap (λ (m : ℕ). take m c) (let same : n ≡ k = omega (arith, e) in same)
take_past (x ∷ b) c k zero e = absurd (omega (arith, e))
take_past (x ∷ b) c k (suc n) e = ap (λ (l : List Part). x ∷ l) (take_past b c k n (omega (arith, e)))

take_keys : (k : ℕ) (ks : List (List ℕ)) → take k (map key ks) ≡ map key (take k ks)
take_keys zero [] = refl
take_keys zero (x ∷ ks) = refl
take_keys (suc k) [] = refl
take_keys (suc k) (x ∷ ks) = ap (λ (l : List Part). key x ∷ l) (take_keys k ks)

-- where dots continue from no table of dots, that is the base
pub base_is : (s : Document) (a b : List Part) (from : ℕ) → Rules (mentions_in s) → IsBaseAt s a from
    → IsDottedFrom (mentions_in s) a b → ((n : ℕ) → origin_at b s ≡ origin.Dotted n → ⊥) → from ≡ length b
base_is s a b from rules at h firm = elim (cases_lt from (length b)) [
  | inl less ↦ absurd (short less)
  | inr more ↦ (elim (cases_lt (length b) from) [ inl far ↦ absurd (long far) | inr near ↦ omega (arith, more, near) ])
]
  where
    keys : List (List ℕ)
    keys = h.first ∷ h.prefix

    size : length a ≡ length b + length keys
    size = ap (λ (l : List Part). length l) h.whole ∙ length-append b (map key keys)
        ∙ ap (λ (n : ℕ). length b + n) (length-map keys key)

    short : from < length b → ⊥
    short less =
        let (m, e) = at.dots (length b) less (omega (arith, size)) in
        let prefix : take (length b) a ≡ b = ap (take (length b)) h.whole ∙ take_prefix b (map key keys) in
        firm m (ap (λ (p : List Part). origin_at p s) (sym prefix) ∙ e)

    long : length b < from → ⊥
    long far =
        let k : ℕ = from - length b - 1 in
        let number : from ≡ length b + suc k = omega (arith, far) in
        let prefix : take from a ≡ b ++ map key (h.first ∷ take k h.prefix) =
        ap (take from) h.whole ∙ take_past b (map key keys) (suc k) from number
        ∙ ap (λ (l : List Part). b ++ l) (take_keys (suc k) keys) in
        let mentioned : SomeOf (IsMentioned is_dotted (b ++ map key (h.first ∷ take k h.prefix))) (mentions_in s) =
        h.dots h.first (take k h.prefix) (drop k h.prefix)
        (ap (λ (l : List (List ℕ)). h.first ∷ l) (sym (take-append-drop k h.prefix))) in
        let (m, e) = dotted_origin (b ++ map key (h.first ∷ take k h.prefix)) s rules mentioned in
        at.base m (ap (λ (p : List Part). origin_at p s) prefix ∙ e)

pub body_firm : (s : Document) (b : List Part) (n : ℕ) → Rules (mentions_in s) → IsBody b (mentions_in s)
    → origin_at b s ≡ origin.Dotted n → ⊥
body_firm s b n rules body e =
    body_no_dots s b rules body (mention_with_number is_dotted value_number b s n (dotted_node b s n e).number)

pub value_firm : (s : Document) (b : List Part) (n : ℕ) → SomeOf (IsMentioned is_value b) (mentions_in s)
    → origin_at b s ≡ origin.Dotted n → ⊥
value_firm s b n value e = unsaid_of_none is_value value_number b s (dotted_node b s n e).value value

-- ---- the place

-- No header defines the holder. The keyval is written after the line of the last one that continues from it, with the
-- keys of the path from the body of that line on.
pub record IsDottedPlaced (s : Document) (path : List Part) (v : Value) (from number : ℕ) : Type 0 where
  pub bare : end_of s (holder path (mentions_in s)) ≡ None
  pub last : ℕ
  pub found : last_line (leads_dotted (holder path (mentions_in s))) start (lines s) ≡ Some last
  pub base : from ≡ length (reading_at last (lines s)).body
  pub first : List ℕ
  pub more : List (List ℕ)
  pub texts : keys_in (drop from path) ≡ first ∷ more
  pub changes : change s (insert path v) ≡ at_line s (suc last) (keyval (name_with (first ∷ more)) v ∷ [])
  pub own : ValueInfo
  pub here : slice_get (syntax.values s) number ≡ Some own
  pub line : ℕ
  pub owned : own.owner ≡ owner.Line line
  pub statement : Statement
  pub there : slice_get (syntax.statements s) line ≡ Some statement
  pub counted : filter_map line_statement (take (suc last) (lines s)) ≡ take (suc line) (statements_in s)
  pub keys : list_any is_index (drop from path) ≡ false
  pub placed : IsLowPlace s (insert path v)
      (line_at (text s) (newline_of s).text (bom_width s) statement.line.end (keys_in (drop from path)) v)

module _ (profile : Profile) (limit : ℕ) (s : Document) (path : List Part) (v : Value) (valid : IsDocument profile s)
    (rules : Rules (mentions_in s)) (no_item : item_number path (mentions_in s) ≡ None)
    (allowed : refusal profile limit s (insert path v) ≡ None) where
  abbrev a : List Part
  a = holder path (mentions_in s)

  new : IsNewPath path (mentions_in s)
  new = new_path profile limit (mentions_in s) path v no_item allowed

  on_line : (from number i : ℕ) → IsDottedNode a s number → IsBaseAt s a from
      → last_line (leads_dotted a) start (lines s) ≡ Some i → IsDottedPlaced s path v from number
  on_line from number i node base found =
      let d : IsDottedAt a s i = dotted_at a s i rules found in
      let same : d.number ≡ number = one_of_two (stated is_dotted value_number a s) d.number number d.is node.number in
      let b : List Part = (reading_at i (lines s)).body in
      let length_is : from ≡ length b =
      base_is s a b from rules base d.base.from (λ n e. body_firm s b n rules d.base.body e) in
      let ends : EndsInKey a = dotted_ends a s (mention_with_number is_dotted value_number a s number node.number) in
      let begun : last_line (begins a) start (lines s) ≡ None =
      none_of (last_line (begins a) start (lines s))
      (λ n e. unheaded number (headed_at a s n e).number node (headed_at a s n e).headed) in
      let bare : end_of s a ≡ None = no_end s a (λ e. no_root (subst EndsInKey e ends)) begun in
      let whole : a ++ drop (length a) path ≡ path = ap (λ (l : List Part). a ++ l) new.rest ∙ sym new.whole in
      let rest : List Part = map key d.base.from.prefix ++ map key (new.first ∷ new.more) in
      let cut : drop from path ≡ key d.base.from.first ∷ rest =
      ap (λ (l : List Part). drop from l)
      (new.whole ∙ ap (λ (l : List Part). l ++ map key (new.first ∷ new.more)) d.base.from.whole
      ∙ append_assoc b (map key (d.base.from.first ∷ d.base.from.prefix)) (map key (new.first ∷ new.more)))
      ∙ ap (λ (n : ℕ). drop n (b ++ (key d.base.from.first ∷ rest))) length_is
      ∙ drop_prefix_parts b (key d.base.from.first ∷ rest) in
      let keys : keys_in (drop from path) ≡ d.base.from.first ∷ keys_in rest = ap keys_in cut in
      let written : keys_in (drop (length b) (a ++ drop (length a) path)) ≡ d.base.from.first ∷ keys_in rest =
      ap (λ (n : ℕ). keys_in (drop n (a ++ drop (length a) path))) (sym length_is)
      ∙ ap (λ (l : List Part). keys_in (drop from l)) whole ∙ keys in
      let changes : change s (insert path v)
      ≡ at_line s (suc i) (keyval (name_with (d.base.from.first ∷ keys_in rest)) v ∷ []) =
      change_there s path v i no_item bare found
      ∙ ap (λ (l : List (List ℕ)). at_line s (suc i) (keyval (name_with l) v ∷ [])) written in
      record {
        bare = bare;
        last = i;
        found = found;
        base = length_is;
        first = d.base.from.first;
        more = keys_in rest;
        texts = keys;
        changes = changes;
        own = d.own;
        here = ap (slice_get (syntax.values s)) (sym same) ∙ d.here;
        line = d.line;
        owned = d.owned;
        statement = d.statement;
        there = d.there;
        counted = d.counted;
        keys = ap (list_any is_index) (cut
            ∙ sym (map-append key (d.base.from.first ∷ d.base.from.prefix) (new.first ∷ new.more)))
            ∙ keys_alone ((d.base.from.first ∷ d.base.from.prefix) ++ (new.first ∷ new.more));
        placed =
            low_place profile s (insert path v)
            (line_at (text s) (newline_of s).text (bom_width s) d.statement.line.end (keys_in (drop from path)) v)
            (suc i) valid
            (line_placed s (insert path v) (suc i) d.base.from.first (keys_in rest) v
            (open_before profile s (suc i) valid d.before)
            changes
            ∙ ap (λ (l : List (List ℕ)). line_at (text s) (newline_of s).text (bom_width s) (line_begins s (suc i)) l v)
            (sym keys)
            ∙ ap (λ (n : ℕ). line_at (text s) (newline_of s).text (bom_width s) n (keys_in (drop from path)) v)
            (sym d.ends)) d.ends;
      }
    where
      unheaded : (n m : ℕ) → IsDottedNode a s n → IsHeaded a s m → ⊥
      unheaded n m node (inl d) = node.header (mention_with_number is_define statement_number a s m d)
      unheaded n m node (inr b) = node.element (mention_with_number is_begun statement_number a s m b)

  -- where the base is no value, the keyvals are on lines
  pub dotted_placed : (from number : ℕ) → origin_at a s ≡ origin.Dotted number → IsBaseAt s a from
      → last_number is_value value_number (numbered_at (take from a) (numbered_in s)) ≡ None
      → IsDottedPlaced s path v from number
  dotted_placed from number h base no_value =
      let node : IsDottedNode a s number = dotted_node a s number h in
      elim (dotted_where a start (lines s) (mention_with_number is_dotted value_number a s number node.number)) [
        | inl some ↦
            (let (i, found) = the_some (last_line (leads_dotted a) start (lines s)) some in
            on_line from number i node base found)
        | inr held ↦ absurd (in_braces from base no_value held)
      ]
    where
      in_braces : (from : ℕ) → IsBaseAt s a from
          → last_number is_value value_number (numbered_at (take from a) (numbered_in s)) ≡ None
          → IsDottedIn (mentions_in s) a → ⊥
      in_braces from base none held =
          let length_is : from ≡ length held.base =
          base_is s a held.base from rules base held.from (λ n e. value_firm s held.base n held.held e) in
          let prefix : take from a ≡ held.base =
          ap (λ (n : ℕ). take n a) length_is ∙ ap (take (length held.base)) held.from.whole
          ∙ take_prefix held.base (map key (held.from.first ∷ held.from.prefix)) in
          unsaid_of_none is_value value_number (take from a) s none
          (subst (λ (p : List Part). SomeOf (IsMentioned is_value p) (mentions_in s)) (sym prefix) held.held)
