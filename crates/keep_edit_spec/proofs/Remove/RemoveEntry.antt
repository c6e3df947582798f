-- What `remove` takes out of the entries of brackets: one of their values, with one comma, and where it is written.
--
-- `take_out` goes along the entries, and `entry_out` is an induction over them. The entry is found as the first of
-- those that are left, and is cut in one of three ways: alone in its brackets (`alone_out`), with the comma after it
-- (`next_out`), or, where it is the last and has none, with the comma before it (`last_out`). The last one is the hard
-- case, since the cut then begins in the entry before: two entries are looked at together (`two_out`). `out_later`
-- takes a cut among the later entries to one among all of them.
--
-- Theorem: `entry_out`: the cut takes one value of the row and one comma, or no comma where it is alone.
use Rattle.std.proofs.Common.{◌≡◌, ℕ, ◌+◌, Bool, true, false, cond, List, [], ◌∷◌, ◌++◌, length, map, refl, sym, ap}
use Rattle.std.proofs.Common.{subst, ◌∙◌, append_assoc, length-append, arith, Option, Some, None, ◌⊎◌, inl, inr}
use Rattle.std.specs.Prelude.{codes, IsTrue, not, ◌==◌}
use Rattle.std.specs.List.{list_all}
use Rattle.std.proofs.lemmas.List.{append-nil}
use Rattle.keep_types.specs.declared.leaf.Leaf.{Leaf}
use Rattle.keep_types.specs.declared.leaf.Leaf.TheVariants as leaf
use Rattle.keep_types.specs.declared.leaf.Profile.{Profile}
use Rattle.keep_types.specs.declared.leaf.Profile.TheVariants.{Strict}
use Rattle.keep_token.specs.Abnf.{is_ws}
use Rattle.keep_token.specs.Leaves.{IsLeaf, is_gap_leaf}
use Rattle.keep_token.specs.Pieces.{first}
use Rattle.keep_syntax.specs.declared.info.Brackets.{Brackets}
use Rattle.keep_syntax.specs.declared.info.Brackets.TheVariants as brackets
use Rattle.keep_types.specs.declared.syntax.Start.{Start}
use Rattle.keep_types.specs.declared.syntax.ValueInfo.{ValueInfo}
use Rattle.keep_syntax.specs.Tree.{Gap, Name, Body, Entries, none, entry, Value, name_leaves, named_leaves, opening}
use Rattle.keep_syntax.specs.Tree.{closing, entries_leaves, text_of, value_text}
use Rattle.keep_syntax.specs.Grammar.{AreEntries, IsGap, IsBlank, Continues, is_ws_leaf, IsNamed, IsBody, place_in}
use Rattle.keep_syntax.specs.Numbered.{value_start, value_end, comma_start, comma_place, name_count, info, nested_of}
use Rattle.keep_syntax.specs.Numbered.{rest_of, entries_values}
use Rattle.keep_syntax.specs.Reading.{close_byte}
use Rattle.keep_syntax.proofs.Shared.{entries_begin, value_begins, key_first_solid, name_begins, value_first_solid}
use Rattle.keep_syntax.proofs.Shared.{is_solid, text_of-append, solid_no_ws, newline_class, comment_class, place_of}
use Rattle.keep_syntax.proofs.Shared.{gap_blank}
use Rattle.keep_meaning.specs.Fact.{Fact}
use Rattle.keep_path.specs.Path.{Part, key, index, same_path}
use Rattle.keep_meaning.specs.Marks.{value, item, Mention, below}
use Rattle.keep_meaning.specs.Meaning.{key_value, further_value, keys_of, body_fact, valued_mentions, keyed_mentions}
use Rattle.keep_meaning.specs.Meaning.{entry_mentions, entries_mentions, step}
use Rattle.keep_meaning.specs.Counts.{is_value}
use Rattle.keep_meaning.proofs.Shared.{valued, valued-append, valued-keyed, valued-entries, length-entries_values}
use Rattle.keep_edit_spec.specs.Changed.{Changed, framed_change, within}
use Rattle.keep_edit_spec.specs.Values.{entries_text, entry_prefix, preserved_gap, prefix_ws, past_ws, Row, taken_first}
use Rattle.keep_edit_spec.specs.Values.{taken_only, taken_last, is_last_named, take_out}
use Rattle.keep_edit_spec.proofs.Common.Runs.{same_path-sound}
use Rattle.keep_edit_spec.proofs.Common.SetLaw.{keyed_split}
use Rattle.keep_edit_spec.proofs.Common.DoneAtValue.{EachOf, of_within}
use Rattle.keep_edit_spec.proofs.Common.FoundValue.{valued-entry}

-- ---- the cut

-- whatever follows it, it begins with a byte that begins a part
abbrev pub Opens : List ℕ → Type 0
Opens text = (x : List ℕ) → is_solid (first (text ++ x)) ≡ true

-- the entry, the gap after it, its comma and the white space that follows: the gap is put back if it holds a comment
pub record IsCutWithNext (own : ValueInfo) (start : ℕ) (old new : List ℕ) : Type 0 where
  pub text : List ℕ
  pub opens : Opens text
  pub after : Gap
  pub blank : IsBlank after
  pub white : List ℕ
  pub all_white : IsTrue (list_all is_ws white)
  pub begins : start ≡ own.whole.start
  pub was : old ≡ text ++ (text_of after ++ (0x2C ∷ white))
  pub ends : own.span.end ≡ own.whole.start + length text
  pub comma : own.comma_after ≡ Some (own.span.end + length (text_of after))
  pub given : new ≡ text_of (preserved_gap after)

-- the comma before the entry, the gap between, and the entry
pub record IsCutWithLast (own : ValueInfo) (start : ℕ) (old new : List ℕ) : Type 0 where
  pub text : List ℕ
  pub opens : Opens text
  pub before : Gap
  pub blank : IsBlank before
  pub was : old ≡ 0x2C ∷ text_of before ++ text
  pub ends : own.span.end ≡ own.whole.start + length text
  pub begins : own.whole.start ≡ start + 1 + length (text_of before)
  pub no_comma : own.comma_after ≡ None
  pub comma : own.comma_before ≡ Some start
  pub given : new ≡ text_of (preserved_gap before)

-- the entry alone
pub record IsCutAlone (own : ValueInfo) (start : ℕ) (old new : List ℕ) : Type 0 where
  pub begins : start ≡ own.whole.start
  pub opens : Opens old
  pub ends : own.span.end ≡ own.whole.start + length old
  pub no_comma : own.comma_after ≡ None
  pub none_before : own.comma_before ≡ None
  pub given : new ≡ []

-- what comes after white space that was taken begins with none
abbrev pub Stops : Brackets → List ℕ → Type 0
Stops b after = (x : List ℕ) → (first x == close_byte b) ≡ true → is_ws (first (after ++ x)) ≡ false

abbrev pub IsCutOut : Brackets → ValueInfo → ℕ → List ℕ → List ℕ → List ℕ → Type 0
IsCutOut b own start old new after =
    (IsCutWithNext own start old new × Stops b after) ⊎ (IsCutWithLast own start old new ⊎ IsCutAlone own start old new)

-- The entry that is taken out is this one of the values, of which this is said. The row's text begins at `begin`.
pub record IsEntryOut (b : Brackets) (path : List Part) (begin : ℕ) (p : Start) (ms : List Mention)
    (infos : List ValueInfo) (d : Changed Row) : Type 0 where
  pub earlier : List Mention
  pub mention : Mention
  pub later : List Mention
  pub mentioned : ms ≡ earlier ++ mention ∷ later
  pub place : mention.path ≡ path
  pub tells : is_value mention.kind ≡ true
  pub prefix : List ValueInfo
  pub own : ValueInfo
  pub others : List ValueInfo
  pub here : infos ≡ prefix ++ own ∷ others
  pub count : valued earlier ≡ length prefix
  pub owner : own.owner ≡ p.owner
  pub cut : IsCutOut b own (begin + length d.before) d.old d.new d.after

-- ---- what an entry says of itself

pub record IsNamedSplit (p : List Part) (ms : List Mention) : Type 0 where
  pub ways : List Mention
  pub mention : Mention
  pub more : List Mention
  pub is : ms ≡ ways ++ mention ∷ more
  pub place : mention.path ≡ p
  pub tells : is_value mention.kind ≡ true
  pub few : valued ways ≡ 0

pub named_split : (n : ℕ) (name : Option Name) (f : Fact) (nested : List Mention)
    → IsNamedSplit (step n name) (entry_mentions n name f nested)
named_split n None f nested = record {
  ways = [];
  mention = record { path = index n ∷ []; kind = item f };
  more = map (below (index n ∷ [])) nested;
  is = refl;
  place = refl;
  tells = refl;
  few = refl;
}
named_split n (Some name) f nested =
    let p : List Part = map key (keys_of name.key) in
    record {
      ways = keyed_mentions (keys_of name.key) [];
      mention = record { path = p ++ []; kind = value f };
      more = map (below p) nested;
      is = keyed_split (keys_of name.key) (valued_mentions (value f) nested);
      place = append-nil p;
      tells = refl;
      few = valued-keyed (key_value name.key.first) (map further_value name.key.more) [];
    }

-- ---- where it ends

pub prefix_long : (at : ℕ) (name : Option Name) (body : Body) (nested : Entries)
    → value_end (value_start at name) body nested ≡ at + length (entry_prefix name body nested)
prefix_long at name body nested =
    let a : List ℕ = text_of (named_leaves name) in
    let b : List ℕ = text_of (opening body) in
    let c : List ℕ = entries_text nested in
    let d : List ℕ = text_of (closing body) in
    omega (arith, length-append a (b ++ (c ++ d)), length-append b (c ++ d), length-append c d)

-- ---- what it begins with

prefix_opens : (profile : Profile) (b : Brackets) (name : Option Name) (body : Body) (nested : Entries)
    → IsNamed profile (place_of b) name → IsBody profile body
    → AreEntries profile (place_in body) nested → Opens (entry_prefix name body nested)
prefix_opens profile brackets.Array None body nested named valid are x =
    let v : Value = record { body = body; nested = nested } in
    let spelled : entry_prefix None body nested ≡ value_text v =
    sym (text_of-append (opening body) (entries_leaves nested ++ closing body)
    ∙ ap (λ (t : List ℕ). text_of (opening body) ++ t) (text_of-append (entries_leaves nested) (closing body))) in
    subst (λ (t : List ℕ). is_solid (first (t ++ x)) ≡ true) (sym spelled)
    (value_first_solid (first (value_text v ++ x)) (value_begins profile v x (record { body = valid; nested = are })))
prefix_opens profile brackets.Array (Some n) body nested named valid are x = absurd named
prefix_opens profile brackets.Inline None body nested named valid are x = absurd named
prefix_opens profile brackets.Inline (Some n) body nested named valid are x =
    let more : List ℕ = text_of (opening body) ++ (entries_text nested ++ text_of (closing body)) in
    subst (λ (t : List ℕ). is_solid (first t) ≡ true) (sym (append_assoc (text_of (name_leaves n)) more x))
    (key_first_solid (first (text_of (name_leaves n) ++ (more ++ x))) (name_begins profile n (more ++ x) named))

-- ---- white space

-- the text of white space, and a gap that begins with none
by_leaf : (l : Leaf) (t : List ℕ) → IsTrue (is_ws_leaf l) → IsLeaf Strict l t → IsTrue (list_all is_ws t)
by_leaf leaf.Ws t e i = i.1
by_leaf _ t e i = absurd cc

pub all_prefix : (g : Gap) → IsBlank g → IsTrue (list_all is_ws (text_of (prefix_ws g)))
all_prefix [] h = refl
all_prefix (w ∷ g) h = by (is_ws_leaf w.leaf) refl
  where
    by : (b : Bool) → is_ws_leaf w.leaf ≡ b → IsTrue (list_all is_ws (text_of (cond b (w ∷ []) [])))
    by true e =
        subst (λ (t : List ℕ). IsTrue (list_all is_ws t)) (sym (append-nil w.text)) (by_leaf w.leaf w.text e h.1)
    by false e = refl

not_white : (l : Leaf) (t x : List ℕ) → IsTrue (is_gap_leaf l) → is_ws_leaf l ≡ false → IsLeaf Strict l t
    → is_ws (first (t ++ x)) ≡ false
not_white leaf.Ws t x k n i = absurd cc
not_white leaf.Newline t x k n i = newline_class is_ws t x refl refl i
not_white leaf.Comment t x k n i = comment_class is_ws t x refl i
not_white _ t x k n i = absurd cc

not_false : (b : Bool) → IsTrue (not b) → b ≡ false
not_false false h = refl
not_false true h = absurd cc

pub past_stops : (g : Gap) (x : List ℕ) → IsBlank g → is_solid (first x) ≡ true
    → is_ws (first (text_of (past_ws g) ++ x)) ≡ false
past_stops [] x h solid = solid_no_ws (first x) solid
past_stops (w ∷ g) x h solid = by (is_ws_leaf w.leaf) refl
  where
    ws_leaf : (l : Leaf) → is_ws_leaf l ≡ true → l ≡ leaf.Ws
    ws_leaf leaf.Ws e = refl
    ws_leaf _ e = absurd cc

    more : (g : Gap) → Continues leaf.Ws g → IsBlank g → is_ws (first (text_of g ++ x)) ≡ false
    more [] n k = solid_no_ws (first x) solid
    more (v ∷ g) n k =
        subst (λ (t : List ℕ). is_ws (first t) ≡ false) (sym (append_assoc v.text (text_of g) x))
        (not_white v.leaf v.text (text_of g ++ x) k.0 (not_false (is_ws_leaf v.leaf) n) k.1)

    by : (b : Bool) → is_ws_leaf w.leaf ≡ b → is_ws (first (text_of (cond b g (w ∷ g)) ++ x)) ≡ false
    by true e = more g (subst (λ (l : Leaf). Continues l g) (ws_leaf w.leaf e) h.2) h.3
    by false e =
        subst (λ (t : List ℕ). is_ws (first t) ≡ false) (sym (append_assoc w.text (text_of g) x))
        (not_white w.leaf w.text (text_of g ++ x) h.0 e h.1)

row_stops : (profile : Profile) (b : Brackets) (after : Gap) (rest : Entries) → IsBlank after
    → AreEntries profile (place_of b) rest → Stops b (text_of (past_ws after) ++ entries_text rest)
row_stops profile b after rest blank are x closed =
    subst (λ (t : List ℕ). is_ws (first t) ≡ false) (sym (append_assoc (text_of (past_ws after)) (entries_text rest) x))
    (past_stops after (entries_text rest ++ x) blank (entries_begin profile b rest x are closed))

-- ---- one entry taken out

abbrev pub IsOut : Brackets → List Part → ℕ → ℕ → Start → Entries → Changed Row → Type 0
IsOut b path n begin p es d = IsEntryOut b path begin p (entries_mentions n es) (entries_values p es) d

-- the first of these entries
out_here : (b : Brackets) (path : List Part) (n begin : ℕ) (p : Start) (name : Option Name) (body : Body)
    (nested : Entries) (after : Gap) (comma : Option Gap) (rest : Entries) (d : Changed Row)
    → same_path (step n name) path ≡ true
    → IsCutOut b (info p (value_start p.at name) (name_count name) body nested
    (comma_place (comma_start p.at name body nested after) comma)) (begin + length d.before) d.old d.new d.after
    → IsOut b path n begin p (entry name body nested after comma rest) d
out_here b path n begin p name body nested after comma rest d named cut =
    let f : Fact = body_fact body in
    let own : ValueInfo =
    info p (value_start p.at name) (name_count name) body nested
    (comma_place (comma_start p.at name body nested after) comma) in
    let h = named_split n name f (entries_mentions 0 nested) in
    record {
      earlier = h.ways;
      mention = h.mention;
      later = h.more ++ entries_mentions (n + 1) rest;
      mentioned =
          ap (λ (l : List Mention). l ++ entries_mentions (n + 1) rest) h.is
          ∙ append_assoc h.ways (h.mention ∷ h.more) (entries_mentions (n + 1) rest);
      place = h.place ∙ same_path-sound (step n name) path named;
      tells = h.tells;
      prefix = [];
      own = own;
      others =
          entries_values (nested_of p (value_start p.at name) (name_count name) body) nested
          ++ entries_values (rest_of p name body nested after comma) rest;
      here = refl;
      count = h.few;
      owner = refl;
      cut = cut;
    }

-- one after the first; the row that it is in begins after the first one's comma
out_later : (b : Brackets) (path : List Part) (n begin further : ℕ) (p : Start) (name : Option Name) (body : Body)
    (nested : Entries) (after : Gap) (comma : Option Gap) (rest : Entries) (d e : Changed Row)
    → further + length e.before ≡ begin + length d.before → d.old ≡ e.old → d.new ≡ e.new
    → ((x : List ℕ) → d.after ++ x ≡ e.after ++ x)
    → IsOut b path (n + 1) further (rest_of p name body nested after comma) rest e
    → IsOut b path n begin p (entry name body nested after comma rest) d
out_later b path n begin further p name body nested after comma rest d e start old new next_gap h =
    let f : Fact = body_fact body in
    let own : ValueInfo =
    info p (value_start p.at name) (name_count name) body nested
    (comma_place (comma_start p.at name body nested after) comma) in
    let i : Start = nested_of p (value_start p.at name) (name_count name) body in
    let first_mentions : List Mention = entry_mentions n name f (entries_mentions 0 nested) in
    let first_values : List ValueInfo = own ∷ entries_values i nested in
    let many : valued first_mentions ≡ length first_values =
    omega (
      arith,
      valued-entry n name f (entries_mentions 0 nested),
      valued-entries 0 nested,
      length-entries_values i nested,
    ) in
    record {
      earlier = first_mentions ++ h.earlier;
      mention = h.mention;
      later = h.later;
      mentioned =
          ap (λ (l : List Mention). first_mentions ++ l) h.mentioned
          ∙ sym (append_assoc first_mentions h.earlier (h.mention ∷ h.later));
      place = h.place;
      tells = h.tells;
      prefix = first_values ++ h.prefix;
      own = h.own;
      others = h.others;
      here = ap (λ (l : List ValueInfo). first_values ++ l) h.here
          ∙ sym (append_assoc first_values h.prefix (h.own ∷ h.others));
      count = omega (arith, many, h.count, valued-append first_mentions h.earlier, length-append first_values h.prefix);
      owner = h.owner;
      cut = same_cut (further + length e.before) (begin + length d.before) e.old d.old e.new d.new start (sym old)
          (sym new) next_gap h.cut;
    }
  where
    same_cut : (s s' : ℕ) (o o' w w' : List ℕ) → s ≡ s' → o ≡ o' → w ≡ w' → ((x : List ℕ) → d.after ++ x ≡ e.after ++ x)
        → IsCutOut b h.own s o w e.after → IsCutOut b h.own s' o' w' d.after
    same_cut s s' o o' w w' a c k next_gap (inl cut) =
        inl (
          subst (λ (t : ℕ). IsCutWithNext h.own t o' w') a
              (subst (λ (t : List ℕ). IsCutWithNext h.own s t w') c
              (subst (λ (t : List ℕ). IsCutWithNext h.own s o t) k cut.0)),
          λ x closed. subst (λ (t : List ℕ). is_ws (first t) ≡ false) (sym (next_gap x)) (cut.1 x closed),
        )
    same_cut s s' o o' w w' a c k next_gap (inr (inl cut)) =
        inr (inl (subst (λ (t : ℕ). IsCutWithLast h.own t o' w') a
        (subst (λ (t : List ℕ). IsCutWithLast h.own s t w') c
        (subst (λ (t : List ℕ). IsCutWithLast h.own s o t) k cut))))
    same_cut s s' o o' w w' a c k next_gap (inr (inr cut)) =
        inr (inr (subst (λ (t : ℕ). IsCutAlone h.own t o' w') a
        (subst (λ (t : List ℕ). IsCutAlone h.own s t w') c (subst (λ (t : List ℕ). IsCutAlone h.own s o t) k cut))))

-- where the entries after a comma begin
comma_ends : (begin : ℕ) (gap : Gap) (at : ℕ) (name : Option Name) (body : Body) (nested : Entries) (after : Gap)
    → begin + length (text_of gap) ≡ at
    → begin + length (text_of gap ++ (entry_prefix name body nested ++ (text_of after ++ codes ",")))
    ≡ comma_start at name body nested after + 1
comma_ends begin gap at name body nested after e =
    omega (
      arith,
      e,
      prefix_long at name body nested,
      length-append (text_of gap) (entry_prefix name body nested ++ (text_of after ++ codes ",")),
      length-append (entry_prefix name body nested) (text_of after ++ codes ","),
      length-append (text_of after) (codes ","),
    )

module _ (profile : Profile) (b : Brackets) (path : List Part) where
  abbrev pub IsFirstOrDisjoint : ℕ → Start → Entries → Type 0
  IsFirstOrDisjoint n p es = (p.comma ≡ None) ⊎ (is_last_named path n es ≡ false)

  -- alone in its brackets
  alone_out : (n begin : ℕ) (gap : Gap) (p : Start) (name : Option Name) (body : Body) (nested : Entries) (after : Gap)
      → begin + length (text_of gap) ≡ p.at
      → Opens (entry_prefix name body nested) → IsFirstOrDisjoint n p (entry name body nested after None none)
      → (o : Bool) → same_path (step n name) path ≡ o
      → EachOf (IsOut b path n begin p (entry name body nested after None none))
      (elim o [ true ↦ Some (taken_only gap name body nested after) | false ↦ None ])
  alone_out n begin gap p name body nested after e opens first false named = tt
  alone_out n begin gap p name body nested after e opens (inr disjoint) true named =
      let k : true ≡ false = sym named ∙ disjoint in absurd cc
  alone_out n begin gap p name body nested after e opens (inl lone) true named =
      out_here b path n begin p name body nested after None none (taken_only gap name body nested after) named
      (inr (inr (record {
        begins = e;
        opens = opens;
        ends = prefix_long p.at name body nested;
        no_comma = refl;
        none_before = lone;
        given = refl;
      })))

  next_out : (n begin : ℕ) (gap : Gap) (p : Start) (name : Option Name) (body : Body) (nested : Entries)
      (after next_gap : Gap) (rest : Entries) → begin + length (text_of gap) ≡ p.at
      → Opens (entry_prefix name body nested) → IsGap profile (place_of b) after → IsGap profile (place_of b) next_gap
      → AreEntries profile (place_of b) rest → same_path (step n name) path ≡ true
      → IsOut b path n begin p (entry name body nested after (Some next_gap) rest)
      (taken_first gap name body nested after next_gap rest)
  next_out n begin gap p name body nested after next_gap rest e opens valid more are named =
      out_here b path n begin p name body nested after (Some next_gap) rest
      (taken_first gap name body nested after next_gap rest) named
      (inl (
        record {
          text = entry_prefix name body nested;
          opens = opens;
          after = after;
          blank = gap_blank profile b after valid;
          white = text_of (prefix_ws next_gap);
          all_white = all_prefix next_gap (gap_blank profile b next_gap more);
          begins = e;
          was = refl;
          ends = prefix_long p.at name body nested;
          comma = refl;
          given = refl;
        },
        row_stops profile b next_gap rest (gap_blank profile b next_gap more) are,
      ))

  -- the last of several
  last_out : (n begin : ℕ) (gap : Gap) (p : Start) (name : Option Name) (body : Body) (nested : Entries)
      (after next_gap : Gap) (name' : Option Name) (body' : Body) (nested' : Entries) (after' : Gap)
      (comma' : Option Gap) (rest' : Entries)
      → begin + length (text_of gap) ≡ p.at → Opens (entry_prefix name' body' nested')
      → IsGap profile (place_of b) next_gap
      → is_last_named path (n + 1) (entry name' body' nested' after' comma' rest') ≡ true
      → IsOut b path n begin p (entry name body nested after (Some next_gap)
      (entry name' body' nested' after' comma' rest'))
      (taken_last gap name body nested after next_gap name' body' nested' after')
  last_out n begin gap p name body nested after next_gap name' body' nested' after' (Some c) rest' e opens more named =
      absurd cc
  last_out n begin gap p name body nested after next_gap name' body' nested' after' None
      (entry name'' body'' nested'' after'' comma'' rest'') e opens more named = absurd cc
  last_out n begin gap p name body nested after next_gap name' body' nested' after' None none e opens more named =
      let r : Start = rest_of p name body nested after (Some next_gap) in
      let d : Changed Row = taken_last gap name body nested after next_gap name' body' nested' after' in
      let start : begin + length d.before ≡ comma_start p.at name body nested after =
      omega (
        arith,
        e,
        prefix_long p.at name body nested,
        length-append (text_of gap) (entry_prefix name body nested ++ text_of after),
        length-append (entry_prefix name body nested) (text_of after),
      ) in
      out_later b path n begin begin p name body nested after (Some next_gap)
      (entry name' body' nested' after' None none) d d refl refl refl (λ x. refl)
      (out_here b path (n + 1) begin r name' body' nested' after' None none d named
      (inr (inl (record {
        text = entry_prefix name' body' nested';
        opens = opens;
        before = next_gap;
        blank = gap_blank profile b next_gap more;
        was = refl;
        ends = prefix_long r.at name' body' nested';
        begins = omega (arith, start);
        no_comma = refl;
        comma = ap Some (sym start);
        given = refl;
      }))))

  two_out : (n begin : ℕ) (gap : Gap) (p : Start) (name : Option Name) (body : Body) (nested : Entries)
      (after next_gap : Gap) (name' : Option Name) (body' : Body) (nested' : Entries) (after' : Gap)
      (comma' : Option Gap) (rest' : Entries)
      → begin + length (text_of gap) ≡ p.at → Opens (entry_prefix name body nested)
      → Opens (entry_prefix name' body' nested') → IsGap profile (place_of b) after
      → IsGap profile (place_of b) next_gap
      → AreEntries profile (place_of b) (entry name' body' nested' after' comma' rest')
      → (is_last_named path (n + 1) (entry name' body' nested' after' comma' rest') ≡ false
      → EachOf (IsOut b path (n + 1) (comma_start p.at name body nested after + 1)
      (rest_of p name body nested after (Some next_gap)) (entry name' body' nested' after' comma' rest'))
      (take_out path (n + 1) next_gap (entry name' body' nested' after' comma' rest')))
      → (o q : Bool) → same_path (step n name) path ≡ o
      → is_last_named path (n + 1) (entry name' body' nested' after' comma' rest') ≡ q
      → EachOf (IsOut b path n begin p
      (entry name body nested after (Some next_gap) (entry name' body' nested' after' comma' rest'))) (elim o [
        | true ↦ Some (taken_first gap name body nested after next_gap (entry name' body' nested' after' comma' rest'))
        | false ↦ elim q [
          | true ↦ Some (taken_last gap name body nested after next_gap name' body' nested' after')
          | false ↦ within (λ r. record { gap = gap; entries = entry name body nested after (Some r.gap) r.entries })
              (text_of gap ++ (entry_prefix name body nested ++ (text_of after ++ codes ","))) []
              (take_out path (n + 1) next_gap (entry name' body' nested' after' comma' rest'))
        ]
      ])
  two_out n begin gap p name body nested after next_gap name' body' nested' after' comma' rest' e opens opens' valid
      more are further true q named last =
      next_out n begin gap p name body nested after next_gap (entry name' body' nested' after' comma' rest') e opens
      valid more are named
  two_out n begin gap p name body nested after next_gap name' body' nested' after' comma' rest' e opens opens' valid
      more are further false true named last =
      last_out n begin gap p name body nested after next_gap name' body' nested' after' comma' rest' e opens' more last
  two_out n begin gap p name body nested after next_gap name' body' nested' after' comma' rest' e opens opens' valid
      more are further false false named last =
      let rest : Entries = entry name' body' nested' after' comma' rest' in
      let from : ℕ = comma_start p.at name body nested after + 1 in
      let r : Start = rest_of p name body nested after (Some next_gap) in
      let outer : Row → Row =
      λ r. record { gap = gap; entries = entry name body nested after (Some r.gap) r.entries } in
      let left : List ℕ = text_of gap ++ (entry_prefix name body nested ++ (text_of after ++ codes ",")) in
      of_within (IsOut b path (n + 1) from r rest)
      (IsOut b path n begin p (entry name body nested after (Some next_gap) rest)) outer left []
      (take_out path (n + 1) next_gap rest)
      (λ d h.
      out_later b path n begin from p name body nested after (Some next_gap) rest (framed_change outer left [] d) d
      (omega (arith, comma_ends begin gap p.at name body nested after e, length-append left d.before)) refl refl
      (λ x. append_assoc d.after [] x) h)
      (further last)

  pub entry_out : (n begin : ℕ) (gap : Gap) (p : Start) (es : Entries) → begin + length (text_of gap) ≡ p.at
      → AreEntries profile (place_of b) es → IsFirstOrDisjoint n p es
      → EachOf (IsOut b path n begin p es) (take_out path n gap es)
  entry_out n begin gap p none e are first = tt
  entry_out n begin gap p (entry name body nested after None none) e are first =
      alone_out n begin gap p name body nested after e (prefix_opens profile b name body nested are.0 are.1 are.2) first
      (same_path (step n name) path) refl
  entry_out n begin gap p (entry name body nested after None (entry name' body' nested' after' comma' rest')) e are
      first = tt
  entry_out n begin gap p (entry name body nested after (Some next_gap) none) e are first =
      by (same_path (step n name) path) refl
    where
      by : (o : Bool) → same_path (step n name) path ≡ o
          → EachOf (IsOut b path n begin p (entry name body nested after (Some next_gap) none))
          (elim o [ true ↦ Some (taken_first gap name body nested after next_gap none) | false ↦ None ])
      by true named =
          next_out n begin gap p name body nested after next_gap none e
          (prefix_opens profile b name body nested are.0 are.1 are.2) are.3 are.4.0 tt named
      by false named = tt
  entry_out n begin gap p (entry name body nested after (Some next_gap) (entry name' body' nested' after' comma' rest'))
      e are first =
      let rest : Entries = entry name' body' nested' after' comma' rest' in
      two_out n begin gap p name body nested after next_gap name' body' nested' after' comma' rest' e
      (prefix_opens profile b name body nested are.0 are.1 are.2)
      (prefix_opens profile b name' body' nested' are.5.0 are.5.1 are.5.2) are.3 are.4 are.5
      (λ disjoint.
      entry_out (n + 1) (comma_start p.at name body nested after + 1) next_gap
      (rest_of p name body nested after (Some next_gap)) (entry name' body' nested' after' comma' rest') (omega arith)
      are.5 (inr disjoint))
      (same_path (step n name) path) (is_last_named path (n + 1) rest) refl refl
