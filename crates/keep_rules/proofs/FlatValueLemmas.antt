-- The flat list of a document's values matches its tree.
--
-- The tree of a value is walked entry by entry, in the order in which its values are stored. Of each entry three things
-- are shown: its leaf has the kind and the children of what the value means (`body_matches`), it is in the value that
-- it is stored with (`body_owns`, `entry_owned`), and its key parts are those that the text has there. The text of an
-- entry is what is left of its parent's after the entries before it, and so are its key parts; `entries_match` cuts
-- both down step by step, first for the values in the entry and then for the later entries.
--
-- Theorems: `keyval_matches`: of the value of a line; `alone_matches`: of a value alone.
use Rattle.std.proofs.Common.{◌≡◌, ℕ, suc, ◌+◌, IsTrue, List, [], ◌∷◌, ◌++◌, length, refl, sym, ap, subst, arith}
use Rattle.std.proofs.Common.{Option, Some, None}
use Rattle.std.proofs.lemmas.Bool.{false≢true}
use Rattle.std.specs.List.{AllZip}
use Rattle.keep_types.specs.declared.leaf.Profile.{Profile}
use Rattle.keep_types.specs.declared.leaf.Leaf.{Leaf}
use Rattle.keep_types.specs.declared.leaf.Leaf.TheVariants as leaf
use Rattle.keep_token.specs.Leaves.{is_scalar_leaf}
use Rattle.keep_types.specs.declared.syntax.KeyPart.{KeyPart}
use Rattle.keep_types.specs.declared.syntax.Start.{Start}
use Rattle.keep_syntax.specs.Tree.{Written, Name, token, key_leaves, Body, scalar, array, inline, Entries, none, entry}
use Rattle.keep_syntax.specs.Tree.{Value, keyval, name_leaves, named_leaves, opening, closing, comma_leaves}
use Rattle.keep_syntax.specs.Tree.{entries_leaves, content_leaves, value_text}
use Rattle.keep_syntax.specs.Grammar.{Place, in_scalar, in_array, in_inline, place_in, IsNamed, IsBody, AreEntries}
use Rattle.keep_syntax.specs.Grammar.{IsValue}
use Rattle.keep_syntax.specs.Contract.{alone, parts_alone, values_alone}
use Rattle.keep_syntax.specs.Numbered.{width, key_parts, named_parts, key_count, name_count, value_start, entries_parts}
use Rattle.keep_syntax.specs.Numbered.{value_count, leaf_of, info, owner_in, nested_of, rest_of, entries_values}
use Rattle.keep_syntax.specs.Numbered.{content_parts, content_values}
use Rattle.keep_meaning.specs.Fact.{Fact}
use Rattle.keep_meaning.specs.Meaning.{scalar_fact, body_fact}
use Rattle.keep_meaning.specs.Nodes.{fact_kind}
use Rattle.keep_rules.specs.NestedValues.{nested_fact, entry_nested, nested_values}
use Rattle.keep_types.specs.Kinds.{leaf_kind}
use Rattle.keep_rules.specs.FlatValues.{LeafMatches, MatchesNested, IsOwned, OwnsEntries, MatchKeyval, MatchAlone}
use Rattle.keep_rules.proofs.NestedValueLemmas.{fact_is}
use Rattle.keep_meaning.proofs.Shared.{length-named, length-entries_parts, IsPart, part_whole, part_left, part_right}
use Rattle.keep_meaning.proofs.Shared.{part_placed, Spelled, spelled_left, spelled_right, keys_mention, keys_within}
use Rattle.keep_meaning.proofs.Shared.{length-key_parts}

all_zip-append : {A B : Type 0} (R : A → B → Type 0) (xs zs : List A) (ys ws : List B) → AllZip R xs ys → AllZip R zs ws
    → AllZip R (xs ++ zs) (ys ++ ws)
all_zip-append R [] zs [] ws h g = g
all_zip-append R [] zs (y ∷ ys) ws h g = absurd h
all_zip-append R (x ∷ xs) zs [] ws h g = absurd h
all_zip-append R (x ∷ xs) zs (y ∷ ys) ws h g = (h.0, all_zip-append R xs zs ys ws h.1 g)

-- ---- kinds

scalar_matches : (l : Leaf) (text : List ℕ) → IsTrue (is_scalar_leaf l) → LeafMatches l (scalar_fact l text)
scalar_matches leaf.Basic text is = record { kind = refl; holds = refl }
scalar_matches leaf.Literal text is = record { kind = refl; holds = refl }
scalar_matches leaf.MlBasic text is = record { kind = refl; holds = refl }
scalar_matches leaf.MlLiteral text is = record { kind = refl; holds = refl }
scalar_matches leaf.Integer text is = record { kind = refl; holds = refl }
scalar_matches leaf.Float text is = record { kind = refl; holds = refl }
scalar_matches leaf.Boolean text is = record { kind = refl; holds = refl }
scalar_matches leaf.OffsetDateTime text is = record { kind = refl; holds = refl }
scalar_matches leaf.LocalDateTime text is = record { kind = refl; holds = refl }
scalar_matches leaf.LocalDate text is = record { kind = refl; holds = refl }
scalar_matches leaf.LocalTime text is = record { kind = refl; holds = refl }
scalar_matches l text is = absurd (false≢true is)

-- a value's leaf has the kind and the children of what the value means
pub body_matches : (profile : Profile) (body : Body) → IsBody profile body → LeafMatches (leaf_of body) (body_fact body)
body_matches profile (scalar w) is = scalar_matches w.leaf w.text is.0
body_matches profile (array first) is = record { kind = refl; holds = refl }
body_matches profile (inline first) is = record { kind = refl; holds = refl }

-- so its kind is that of its first leaf
pub kind_of_body : (profile : Profile) (body : Body) → IsBody profile body
    → leaf_kind (leaf_of body) ≡ fact_kind (body_fact body)
kind_of_body profile body is = sym (body_matches profile body is).kind

nested_leaf_matches : (l : Leaf) (o : ℕ) (name : Option Name) (f : Fact) → LeafMatches l f
    → LeafMatches l (nested_fact (entry_nested o name f))
nested_leaf_matches l o name f h = subst (LeafMatches l) (sym (fact_is o name f)) h

-- ---- owners

-- the entries of a value
body_owns : (body : Body) (base v g : ℕ) → g + 1 ≡ base + v → OwnsEntries (place_in body) base v (owner_in body g)
body_owns (scalar w) base v g e = tt
body_owns (array first) base v g e = (g, refl, e)
body_owns (inline first) base v g e = (g, refl, e)

name_spelled : (bytes : List ℕ) (at : ℕ) (n : Name) → Spelled bytes at (name_leaves n)
    → Spelled bytes at (key_leaves n.key)
name_spelled bytes at n h =
    spelled_left bytes at (key_leaves n.key) (n.before ++ (token leaf.Equals (0x3D ∷ []) ++ n.after)) h

module _ (bytes : List ℕ) (parts : List KeyPart) (base : ℕ) where
  -- an entry is in its value, with its keys
  entry_owned : (profile : Profile) (place : Place) (o : ℕ) (p : Start) (name : Option Name) (f : Fact) (at : ℕ)
      (body : Body) (nested : Entries) (comma : Option ℕ)
      → IsNamed profile place name → OwnsEntries place base o p.owner → Spelled bytes p.at (named_leaves name)
      → IsPart parts p.parts (named_parts p.at name)
      → IsOwned bytes parts base (entry_nested o name f) (info p at (name_count name) body nested comma)
  entry_owned profile in_scalar o p None f at body nested comma is owns text among = absurd is
  entry_owned profile in_scalar o p (Some n) f at body nested comma is owns text among = absurd is
  entry_owned profile in_array o p None f at body nested comma is owns text among = owns
  entry_owned profile in_array o p (Some n) f at body nested comma is owns text among = absurd is
  entry_owned profile in_inline o p None f at body nested comma is owns text among = absurd is
  entry_owned profile in_inline o p (Some n) f at body nested comma is owns text among = (
    owns.0,
    owns.1,
    owns.2,
    keys_mention bytes parts p.at p.parts n.key (name_spelled bytes p.at n text) among,
    keys_within parts p.at p.parts n.key among,
  )

  -- ---- entries

  -- The values of entries that begin at that place are their nested values, one after another.
  pub entries_match : (profile : Profile) (place : Place) (o v : ℕ) (p : Start) (es : Entries)
      → AreEntries profile place es → OwnsEntries place base o p.owner → p.values + 1 ≡ base + v
      → Spelled bytes p.at (entries_leaves es) → IsPart parts p.parts (entries_parts p.at es)
      → AllZip (MatchesNested bytes parts base) (nested_values o v es) (entries_values p es)
  entries_match profile place o v p none are owns number text among = tt
  entries_match profile place o v p (entry name body nested after comma rest) are owns number text among =
      let i : Start = nested_of p (value_start p.at name) (name_count name) body in
      let r : Start = rest_of p name body nested after comma in
      let further : List Written = entries_leaves rest in
      let closed : List Written = closing body ++ (after ++ (comma_leaves comma ++ further)) in
      let opened : List Written = opening body ++ (entries_leaves nested ++ closed) in
      let at_value : Spelled bytes (value_start p.at name) opened =
      spelled_right bytes p.at (named_leaves name) opened text in
      let at_nested : Spelled bytes i.at (entries_leaves nested ++ closed) =
      spelled_right bytes (value_start p.at name) (opening body) (entries_leaves nested ++ closed) at_value in
      let at_closing : Spelled bytes (i.at + width (entries_leaves nested)) closed =
      spelled_right bytes i.at (entries_leaves nested) closed at_nested in
      let at_after =
      spelled_right bytes (i.at + width (entries_leaves nested)) (closing body)
      (after ++ (comma_leaves comma ++ further)) at_closing in
      let at_comma =
      spelled_right bytes (i.at + width (entries_leaves nested) + width (closing body)) after
      (comma_leaves comma ++ further) at_after in
      let at_rest : Spelled bytes r.at further =
      spelled_right bytes (i.at + width (entries_leaves nested) + width (closing body) + width after)
      (comma_leaves comma) further at_comma in
      let inner : List KeyPart = entries_parts i.at nested in
      let outer : List KeyPart = entries_parts r.at rest in
      let after_name : IsPart parts (p.parts + name_count name) (inner ++ outer) =
      part_placed parts (p.parts + length (named_parts p.at name)) (p.parts + name_count name) (inner ++ outer)
      (ap (λ (n : ℕ). p.parts + n) (length-named p.at name))
      (part_right parts p.parts (named_parts p.at name) (inner ++ outer) among) in
      let after_nested : IsPart parts r.parts outer =
      part_placed parts (p.parts + name_count name + length inner) r.parts outer
      (omega (arith, length-entries_parts i.at nested))
      (part_right parts (p.parts + name_count name) inner outer after_name) in
      let joined : LeafMatches (leaf_of body) (nested_fact (entry_nested o name (body_fact body))) =
      nested_leaf_matches (leaf_of body) o name (body_fact body) (body_matches profile body are.1) in (
        record {
          kind = joined.kind;
          holds = joined.holds;
          owned = entry_owned profile place o p name (body_fact body) (value_start p.at name) body nested _ are.0 owns
              (spelled_left bytes p.at (named_leaves name) opened text)
              (part_left parts p.parts (named_parts p.at name) (inner ++ outer) among);
        },
        all_zip-append (MatchesNested bytes parts base) (nested_values v (suc v) nested)
            (nested_values o (suc v + value_count nested) rest) (entries_values i nested) (entries_values r rest)
            (entries_match profile (place_in body) v (suc v) i nested are.2 (body_owns body base v p.values number)
            (omega arith) (spelled_left bytes i.at (entries_leaves nested) closed at_nested)
            (part_left parts i.parts inner outer after_name))
            (entries_match profile place o (suc v + value_count nested) r rest are.5 owns (omega arith) at_rest
            after_nested),
      )

-- ---- a keyval, and a value alone

-- The values of a line's keyval that begins at that place are its nested values.
pub keyval_matches : (bytes : List ℕ) (parts : List KeyPart) (profile : Profile) (p : Start) (name : Name) (v : Value)
    → IsValue profile v
    → Spelled bytes p.at (content_leaves (keyval name v)) → IsPart parts p.parts (content_parts p.at (keyval name v))
    → MatchKeyval bytes parts p.values name v (content_values p (keyval name v))
keyval_matches bytes parts profile p name v is text among =
    let at : ℕ = p.at + width (name_leaves name) in
    let i : Start = nested_of p at (key_count name.key) v.body in
    let inner : List KeyPart = entries_parts i.at v.nested in
    let closed : List Written = entries_leaves v.nested ++ closing v.body in
    let at_value : Spelled bytes at (opening v.body ++ closed) =
    spelled_right bytes p.at (name_leaves name) (opening v.body ++ closed) text in
    let at_nested : Spelled bytes i.at closed = spelled_right bytes at (opening v.body) closed at_value in
    let own : IsPart parts p.parts (key_parts p.at name.key) =
    part_left parts p.parts (key_parts p.at name.key) inner among in
    let after_name : IsPart parts i.parts inner =
    part_placed parts (p.parts + length (key_parts p.at name.key)) i.parts inner
    (ap (λ (n : ℕ). p.parts + n) (length-key_parts p.at name.key))
    (part_right parts p.parts (key_parts p.at name.key) inner among) in
    let joined : LeafMatches (leaf_of v.body) (body_fact v.body) = body_matches profile v.body is.body in (
      record {
        kind = joined.kind;
        holds = joined.holds;
        keys = keys_mention bytes parts p.at p.parts name.key
            (name_spelled bytes p.at name (spelled_left bytes p.at (name_leaves name) (opening v.body ++ closed) text))
            own;
        within = keys_within parts p.at p.parts name.key own;
      },
      entries_match bytes parts p.values profile (place_in v.body) 1 2 i v.nested is.nested
          (body_owns v.body p.values 1 p.values refl) (omega arith)
          (spelled_left bytes i.at (entries_leaves v.nested) (closing v.body) at_nested) after_name,
    )

-- The values of a value alone, whose text this is.
pub alone_matches : (bytes : List ℕ) (profile : Profile) (v : Value) → IsValue profile v → bytes ≡ value_text v
    → MatchAlone bytes (parts_alone v) v (values_alone v)
alone_matches bytes profile v is e =
    let i : Start = nested_of alone 0 0 v.body in
    let closed : List Written = entries_leaves v.nested ++ closing v.body in
    let text : Spelled bytes 0 (opening v.body ++ closed) =
    subst (λ (t : List ℕ). IsPart bytes 0 t) e (part_whole bytes) in
    let at_nested : Spelled bytes i.at closed = spelled_right bytes 0 (opening v.body) closed text in (
      body_matches profile v.body is.body,
      entries_match bytes (parts_alone v) 1 profile (place_in v.body) 0 1 i v.nested is.nested
          (body_owns v.body 1 0 0 refl) refl
          (spelled_left bytes i.at (entries_leaves v.nested) (closing v.body) at_nested) (part_whole (parts_alone v)),
    )
