-- Once a header came at the end of a text and began the body of a path, an insert of any key at that path adds its line
-- there: what the headers of tables and of elements have in common.
--
-- Only the last line comes after the header's, which is blank; so the body ends after the last line with a newline
-- (`ends`, by `end_past` over the lines before). Nothing was said at the path or under it, and the header says no more
-- of the path than that it is a table (`table_now`), and nothing of paths under it (`unsaid_now`), so the path is the
-- holder of each of its keys (`holds`). No prefix of it is an array or an inline table, so nothing encloses a value
-- there (`flat_now`). So an insert of a key is not refused, if the value may be there at all (`allowed_now`). The last
-- line has no bytes, so the line comes at the end of the text (`place_now`).
--
-- Theorems: `header_opens`; `path_is`: where no array of tables is on the way of a header's keys, its path is theirs;
-- `way_says`: what it says on its way; `are_first`, `before_last`: prefixes of a path; `end_below`: the end of a body
-- that is not the root's.
use Rattle.std.proofs.Common.{◌≡◌, ℕ, suc, ◌+◌, ◌-◌, Bool, true, false, not, cond, ◌&&◌, nat_lt, List, [], ◌∷◌, ◌++◌}
use Rattle.std.proofs.Common.{length, map, take, drop, refl, sym, ap, ap₂, subst, ◌∙◌, append_assoc, length-append}
use Rattle.std.proofs.Common.{arith, Option, Some, None, inl, IsUtf8}
use Rattle.std.specs.Prelude.{◌==◌}
use Rattle.std.specs.List.{AllByRecursion, filter_map, list_any}
use Rattle.std.proofs.lemmas.Bool.{le-ltb}
use Rattle.std.proofs.lemmas.List.{append-nil, length-map, map-append, take_all}
use Rattle.std.proofs.lemmas.List.Elements.{filter_map-append}
use Rattle.keep_types.specs.declared.leaf.Profile.{Profile}
use Rattle.keep_syntax.specs.Grammar.{IsDocument}
use Rattle.keep_syntax.specs.Tree.{Content, Document, Ended, Line, Value, Written, blank, bom_leaves, ended_leaves}
use Rattle.keep_syntax.specs.Tree.{keyval, text, text_of, value_depth}
use Rattle.keep_path.specs.Path.{Part, index, key, strip}
use Rattle.keep_meaning.specs.Fact.{Fact}
use Rattle.keep_meaning.specs.Marks.{Mention, MentionKind, Reading, elements_of, entered_path, fact_of, header_path}
use Rattle.keep_meaning.specs.Marks.{header_prefixes, start}
use Rattle.keep_meaning.specs.Meaning.{after_line, line_of, lines, mentions_in, reading_after_lines}
use Rattle.keep_meaning.specs.Nodes.{fact_at, first_of, has, is_at, is_element, is_node, is_root, kinds_at}
use Rattle.keep_edit_spec.specs.declared.fault.EditFault.TheVariants as fault
use Rattle.keep_edit_spec.specs.AddedLines.{AddsLine, first_new}
use Rattle.keep_edit_spec.specs.Changed.{Changed}
use Rattle.keep_edit_spec.specs.Edits.{changed_or_same, end_of, insert, name_with, place}
use Rattle.keep_edit_spec.specs.FilledTables.{IsFitting, IsOpen, key_in, key_line}
use Rattle.keep_edit_spec.specs.Insertion.{keyed_text, put_in}
use Rattle.keep_edit_spec.specs.Lines.{begins, body_length, ended_text, is_empty, new_line, newline_of, plain_line}
use Rattle.keep_edit_spec.specs.Look.{enclosing, holder, is_bracket_at, is_index, is_table, is_table_fact, key_text}
use Rattle.keep_edit_spec.specs.Look.{keys_in}
use Rattle.keep_edit_spec.specs.Refusals.{first_that_holds, is_foreign, refusal, refusal_by}
use Rattle.keep_edit_spec.specs.Runs.{PassesBy}
use Rattle.keep_edit_spec.specs.TextChanges.{TextChange, change_at}
use Rattle.keep_edit_spec.specs.TextEnds.{ends_in_newline}
use Rattle.keep_edit_spec.proofs.Append.AppendPlace.{empty_text, text_is}
use Rattle.keep_edit_spec.proofs.Append.AppendTable.{none_prefixes, silent_prefixes}
use Rattle.keep_edit_spec.proofs.Common.EntryDepths.{enclosing_none}
use Rattle.keep_edit_spec.proofs.Common.Runs.{AllOf, IsDisjoint, kinds_at-append, kinds_at-disjoint, same_path-sound}
use Rattle.keep_edit_spec.proofs.Common.Runs.{strip-append, strip_both}
use Rattle.keep_edit_spec.proofs.Insert.KeysAtEnd.{first_is}
use Rattle.keep_edit_spec.proofs.Insert.LineBefore.{new_line_text}
use Rattle.keep_edit_spec.proofs.Insert.NewPath.{drop_prefix_parts}
use Rattle.keep_edit_spec.proofs.Lists.BodyEnds.{end_cons, end_in, end_or}
use Rattle.keep_edit_spec.proofs.Lists.HeaderComes.{HeaderComes}
use Rattle.keep_edit_spec.proofs.Lists.HeaderLines.{headed, header_lines, last_empty, lines_are, newline_again, put_is}
use Rattle.keep_edit_spec.proofs.Lists.HeaderSays.{bracket_same, kinds_same}
use Rattle.keep_edit_spec.proofs.Lists.NewHolder.{body_node, holder_of_node, path_new}
use Rattle.keep_edit_spec.proofs.Lists.Places.{item_none, one_text, place_is}
use Rattle.keep_edit_spec.proofs.Lists.SaidOfPrefixes.{any_kinds}

-- ---- the header's path, where no array of tables is on its way

abbrev NoneOnWay : List (List Part) → List (List ℕ) → Type 0
NoneOnWay tables keys =
    (k : List ℕ) (ks : List (List ℕ)) (l : List ℕ) (rest : List (List ℕ)) → keys ≡ k ∷ ks ++ l ∷ rest
    → elements_of (map key (k ∷ ks)) tables ≡ 0

stays_there : (tables : List (List Part)) (q : List Part) → elements_of q tables ≡ 0 → entered_path tables q ≡ q
stays_there tables q none = ap (λ (n : ℕ). cond (0 == n) q (q ++ index (n - 1) ∷ [])) none

none_at : (tables : List (List Part)) (keys : List (List ℕ)) → NoneOnWay tables keys → (at : List (List ℕ))
    (k l : List ℕ) (rest : List (List ℕ)) → keys ≡ (at ++ k ∷ []) ++ l ∷ rest
    → elements_of (map key (at ++ k ∷ [])) tables ≡ 0
none_at tables keys none [] k l rest e = none k [] l rest e
none_at tables keys none (x ∷ at) k l rest e = none x (at ++ k ∷ []) l rest e

path_from : (tables : List (List Part)) (keys : List (List ℕ)) → NoneOnWay tables keys → (at more : List (List ℕ))
    → keys ≡ at ++ more → header_path tables (map key at) more ≡ map key keys
path_from tables keys none at [] e = ap (map key) (sym (append-nil at) ∙ sym e)
path_from tables keys none at (k ∷ []) e = sym (map-append key at (k ∷ [])) ∙ ap (map key) (sym e)
path_from tables keys none at (k ∷ l ∷ more) e =
    let q : List Part = map key at ++ key k ∷ [] in
    let next : List (List ℕ) = at ++ k ∷ [] in
    let whole : keys ≡ next ++ l ∷ more = e ∙ sym (append_assoc at (k ∷ []) (l ∷ more)) in
    let same : q ≡ map key next = sym (map-append key at (k ∷ [])) in
    let here : elements_of q tables ≡ 0 =
    ap (λ (x : List Part). elements_of x tables) same ∙ none_at tables keys none at k l more whole in
    ap (λ (x : List Part). header_path tables x (l ∷ more)) (stays_there tables q here ∙ same)
    ∙ path_from tables keys none next (l ∷ more) whole

pub path_is : (tables : List (List Part)) (keys : List (List ℕ)) → NoneOnWay tables keys
    → header_path tables [] keys ≡ map key keys
path_is tables keys none = path_from tables keys none [] keys refl

-- ---- prefixes of a path

-- a prefix of a path of keys
pub record AreFirst (keys : List (List ℕ)) (q : List Part) : Type 0 where
  pub first : List (List ℕ)
  pub rest : List (List ℕ)
  pub all : keys ≡ first ++ rest
  pub is : q ≡ map key first

pub are_first : (keys : List (List ℕ)) (q rest : List Part) → map key keys ≡ q ++ rest → AreFirst keys q
are_first keys [] rest e = record { first = []; rest = keys; all = refl; is = refl }
are_first [] (x ∷ q) rest e = absurd cc
are_first (j ∷ keys) (x ∷ q) rest e =
    let one : key j ≡ x = cc in
    let more : map key keys ≡ q ++ rest = cc in
    let f : AreFirst keys q = are_first keys q rest more in
    record {
      first = j ∷ f.first;
      rest = f.rest;
      all = ap (λ (l : List (List ℕ)). j ∷ l) f.all;
      is = ap₂ (λ (y : Part) (l : List Part). y ∷ l) (sym one) f.is;
    }

-- one that is not the whole is one of the path before the last part
pub before_last : (a : List Part) (p : Part) (q : List Part) (k : Part) (qs : List Part)
    → a ++ p ∷ [] ≡ q ++ k ∷ qs → (rest : List Part) × (a ≡ q ++ rest)
before_last a p [] k qs e = (a, refl)
before_last [] p (x ∷ []) k qs e = absurd cc
before_last [] p (x ∷ y ∷ q) k qs e = absurd cc
before_last (b ∷ a) p (x ∷ q) k qs e =
    let one : b ≡ x = cc in
    let more : a ++ p ∷ [] ≡ q ++ k ∷ qs = cc in
    let (rest, is) = before_last a p q k qs more in
    (rest, ap₂ (λ (y : Part) (l : List Part). y ∷ l) one is)

-- ---- what a header says of the path that it opens

-- It says at most that a table is there.
abbrev pub IsTableAt : List Part → Mention → Type 0
IsTableAt a m = m.path ≡ a → (is_table_fact (fact_of m.kind) ≡ true) × (is_element m.kind ≡ false)

of_tables : (a : List Part) (ms : List Mention) → AllOf (λ (m : Mention). fact_of m.kind ≡ None) ms
    → AllOf (λ (m : Mention). is_element m.kind ≡ false) ms → AllOf (IsTableAt a) ms
of_tables a [] h g = tt
of_tables a (m ∷ ms) h g = ((λ e. (ap is_table_fact h.0, g.0)), of_tables a ms h.1 g.1)

-- so it does of the paths on its way
pub way_says : (a : List Part) (tables : List (List Part)) (keys : List (List ℕ))
    → AllOf (IsTableAt a) (header_prefixes tables [] keys)
way_says a tables keys =
    of_tables a (header_prefixes tables [] keys) (silent_prefixes tables [] keys) (none_prefixes tables [] keys)

table_by : (q : List Part) (ms : List Mention) → AllOf (IsTableAt q) ms
    → (is_table_fact (fact_at q ms) ≡ true) × (has is_element q ms ≡ false)
table_by q [] h = (refl, refl)
table_by q (m ∷ ms) h = by (is_at q m) refl (fact_of m.kind) refl (table_by q ms h.1)
  where
    by : (b : Bool) → is_at q m ≡ b → (o : Option Fact) → fact_of m.kind ≡ o
        → (is_table_fact (fact_at q ms) ≡ true) × (has is_element q ms ≡ false)
        → (is_table_fact (fact_at q (m ∷ ms)) ≡ true) × (has is_element q (m ∷ ms) ≡ false)
    by false e o f k = rw e k
    by true e None f k =
        let (fact, plain) = h.0 (same_path-sound m.path q e) in (rw (e, f) k.0, rw (e, plain) k.1)
    by true e (Some x) f k =
        let (fact, plain) = h.0 (same_path-sound m.path q e) in
        (rw (e, f) (sym (ap is_table_fact f) ∙ fact), rw (e, plain) k.1)

-- ---- the end of a body that begins after some lines

-- The end of a body among the lines after these.
record IsEndPast (a : List Part) (r : Reading) (first more : List Line) (n : ℕ) : Type 0 where
  number : ℕ
  is : end_in a r (first ++ more) ≡ Some number
  past : number ≡ length first + n

end_past : (a : List Part) (r : Reading) (first more : List Line) (n : ℕ)
    → end_in a (reading_after_lines r first) more ≡ Some n → IsEndPast a r first more n
end_past a r [] more n h = record { number = n; is = h; past = omega arith }
end_past a r (l ∷ first) more n h =
    let f : IsEndPast a (after_line r l) first more n = end_past a (after_line r l) first more n h in
    record {
      number = suc f.number;
      is = end_cons a r l (first ++ more) ∙ ap (end_or (begins a r l) (body_length (first ++ more))) f.is;
      past = omega (arith, f.past);
    }

-- A blank line begins no body.
none_last : (a : List Part) (r : Reading) (l : Line) → l.content ≡ blank → end_in a r (l ∷ []) ≡ None
none_last a r l e =
    end_cons a r l [] ∙ ap (λ (x : Content). end_or (begins a r (plain_line x)) 0 None) e

-- of the body of a header between a blank line and the last
end_here : (a : List Part) (r : Reading) (content : Content) (last : Line) → last.content ≡ blank
    → begins a r (plain_line content) ≡ true
    → end_in a r (plain_line blank ∷ plain_line content ∷ last ∷ []) ≡ Some 2
end_here a r content last empty begun =
    let here : Line = plain_line content in
    let none : body_length (last ∷ []) ≡ 0 = ap (λ (x : Content). body_length (plain_line x ∷ [])) empty in
    end_cons a r (plain_line blank) (here ∷ last ∷ [])
    ∙ ap (end_or (begins a r (plain_line blank)) (body_length (here ∷ last ∷ [])))
    (end_cons a r here (last ∷ [])
    ∙ ap (end_or (begins a r here) (body_length (last ∷ []))) (none_last a (after_line r here) last empty)
    ∙ ap₂ (λ (b : Bool) (n : ℕ). cond b (Some (suc n)) None) begun none)

-- ---- an insert that nothing refuses

unrefused : (x y z u v : Bool) → x ≡ false → y ≡ false → z ≡ false → u ≡ false → v ≡ false
    → first_that_holds ((x, fault.NotFound) ∷ (y, fault.Exists) ∷ (z, fault.NotTable) ∷ (u, fault.TooDeep)
    ∷ (v, fault.Profile) ∷ []) ≡ None
unrefused x y z u v a b c d e = rw (a, b, c, d, e) refl

-- of one key more than the holder's path
key_allowed : (profile : Profile) (limit : ℕ) (ms : List Mention) (a : List Part) (name : List ℕ) (value : Value)
    → holder (a ++ key name ∷ []) ms ≡ a → is_node (a ++ key name ∷ []) ms ≡ false → is_table a ms ≡ true
    → enclosing (a ++ key name ∷ []) ms ≡ 0 → IsFitting profile limit value
    → refusal_by profile limit ms (insert (a ++ key name ∷ []) value) ≡ None
key_allowed profile limit ms a name value holds new table flat fits =
    rw (item_none path a name [] refl ms, refusal_by) (unrefused
    (not (is_node path ms) && list_any is_index (drop (length (holder path ms)) path)) (is_node path ms)
    (not (is_table (holder path ms) ms)) (nat_lt limit (enclosing path ms + value_depth value))
    (is_foreign profile value) indexes new no_table deep fits.allowed)
  where
    path : List Part
    path = a ++ key name ∷ []

    indexes : (not (is_node path ms) && list_any is_index (drop (length (holder path ms)) path)) ≡ false
    indexes =
        ap (λ (b : Bool). not b && list_any is_index (drop (length (holder path ms)) path)) new
        ∙ ap (λ (q : List Part). list_any is_index (drop (length q) path)) holds
        ∙ ap (list_any is_index) (drop_prefix_parts a (key name ∷ []))

    no_table : not (is_table (holder path ms) ms) ≡ false
    no_table = ap (λ (q : List Part). not (is_table q ms)) holds ∙ ap not table

    deep : nat_lt limit (enclosing path ms + value_depth value) ≡ false
    deep = le-ltb limit (enclosing path ms + value_depth value) (omega (arith, flat, fits.shallow))

-- ---- after the header

pub end_below : (s : Document) (a : List Part) → is_root a ≡ false → end_of s a ≡ end_in a start (lines s)
end_below s [] below = absurd cc
end_below s (p ∷ ps) below = refl

-- What there is to know of the header and of the path whose body it begins, where it says `own`.
pub record OpensBody (profile : Profile) (s : Document) (keys : List (List ℕ)) (a : List Part) (content : Content)
    (own : List Mention) : Type 0 where
  pub valid : IsDocument profile s
  pub closed : ends_in_newline (text s) ≡ true
  pub utf8 : AllByRecursion IsUtf8 keys
  pub below : is_root a ≡ false
  pub names : keys_in a ≡ keys
  pub begun : begins a (reading_after_lines start (map line_of s.ended)) (plain_line content) ≡ true
  pub unsaid : AllOf (IsDisjoint a) (mentions_in s)
  pub says : AllOf (IsTableAt a) own
  pub flat : (q rest : List Part) → a ≡ q ++ rest → is_bracket_at (mentions_in s) q ≡ false

module _ (profile : Profile) (limit : ℕ) (s : Document) (keys : List (List ℕ)) (c : TextChange) (content : Content)
    (a : List Part) (come : HeaderComes s keys c content) (h : OpensBody profile s keys a content come.own) where
  abbrev now : Document
  now = (headed s content).to

  abbrev ms : List Mention
  ms = mentions_in s

  abbrev left : List Mention
  left = mentions_in now

  -- ---- its body

  two_lines : length now.ended ≡ length s.ended + 2
  two_lines =
      ap (λ (t : Document). length t.ended) (put_is s content) ∙ length-append s.ended (header_lines s content)

  ends : end_of now a ≡ Some (length now.ended)
  ends =
      let at_end : Reading = reading_after_lines start (map line_of s.ended) in
      let more : List Line = plain_line blank ∷ plain_line content ∷ s.last ∷ [] in
      let f : IsEndPast a start (map line_of s.ended) more 2 =
      end_past a start (map line_of s.ended) more 2 (end_here a at_end content s.last come.empty h.begun) in
      let last : f.number ≡ length now.ended =
      omega (arith, f.past, two_lines, length-map s.ended line_of) in
      end_below now a h.below ∙ ap (end_in a start) (ap lines (put_is s content) ∙ lines_are s content) ∙ f.is
      ∙ ap (λ (n : ℕ). Some n) last

  -- ---- what is said of it

  nothing_said : (r : List Part) → kinds_at (a ++ r) ms ≡ []
  nothing_said r = kinds_at-disjoint a (a ++ r) r ms h.unsaid (strip-append a r)

  table_now : is_table a left ≡ true
  table_now =
      let said : kinds_at a left ≡ kinds_at a come.own =
      ap (kinds_at a) come.says ∙ kinds_at-append a ms come.own
      ∙ ap (λ (l : List MentionKind). l ++ kinds_at a come.own)
      (ap (λ (q : List Part). kinds_at q ms) (sym (append-nil a)) ∙ nothing_said []) in
      let own : (is_table_fact (fact_at a come.own) ≡ true) × (has is_element a come.own ≡ false) =
      table_by a come.own h.says in
      ap (λ (kinds : List MentionKind).
      is_table_fact (first_of (filter_map fact_of kinds)) && not (list_any is_element kinds)) said
      ∙ ap₂ (λ (x y : Bool). x && not y) own.0 own.1

  node_now : is_node a left ≡ true
  node_now = body_node now a (length now.ended) ends

  newline_now : newline_of now ≡ newline_of s
  newline_now =
      ap (λ (o : Option (Changed Document)). newline_of (changed_or_same s o).to) (sym come.made)
      ∙ newline_again profile s h.valid h.closed content

  last_now : is_empty now.last ≡ true
  last_now = ap (λ (t : Document). is_empty t.last) (put_is s content) ∙ last_empty profile s h.valid h.closed

  -- ---- a key of it

  module _ (name : List ℕ) (value : Value) (utf8 : IsUtf8 name) (fits : IsFitting profile limit value) where
    abbrev path : List Part
    path = key_in a name

    keys_more : keys_in path ≡ keys ++ name ∷ []
    keys_more =
        filter_map-append key_text a (key name ∷ []) ∙ ap (λ (l : List (List ℕ)). l ++ name ∷ []) h.names

    -- The header's keys do not lead to it.
    passed : PassesBy keys path
    passed =
        ap (λ (x : List (List ℕ)). strip (map key x) (map key keys)) keys_more
        ∙ ap (λ (p : List Part). strip p (map key keys)) (map-append key keys (name ∷ []))
        ∙ ap (strip (map key keys ++ key name ∷ [])) (sym (append-nil (map key keys)))
        ∙ strip_both (map key keys) (key name ∷ []) []

    unsaid_now : list_any (is_at path) left ≡ false
    unsaid_now =
        any_kinds path left
        ∙ ap (list_any (λ (kind : MentionKind). true))
        (ap (kinds_at path) come.says ∙ kinds_same keys path ms come.own passed come.of_header
        ∙ nothing_said (key name ∷ []))

    holds : holder path left ≡ a
    holds = holder_of_node now path a name [] refl unsaid_now node_now

    flat_now : enclosing path left ≡ 0
    flat_now =
        enclosing_none path left (λ q p qs e.
        let (rest, is) = before_last a (key name) q p qs e in
        ap (λ (l : List Mention). is_bracket_at l q) come.says ∙ bracket_same keys q ms come.own come.of_header
        ∙ h.flat q rest is)

    allowed_now : refusal profile limit now (insert path value) ≡ None
    allowed_now =
        key_allowed profile limit left a name value holds (path_new now path a name [] refl unsaid_now) table_now
        flat_now fits

    new_now : path ≡ holder path left ++ map key (name ∷ [])
    new_now = ap (λ (q : List Part). q ++ key name ∷ []) (sym holds)

    ends_now : end_of now (holder path left) ≡ Some (length now.ended)
    ends_now = ap (end_of now) holds ∙ ends

    abbrev new_text : List ℕ
    new_text = key_line (newline_of s).text name value

    line_now : text_of (ended_leaves (new_line (newline_of now) (keyval (name_with (name ∷ [])) value))) ≡ new_text
    line_now =
        sym (one_text (new_line (newline_of now) (keyval (name_with (name ∷ [])) value)))
        ∙ new_line_text (newline_of now) name [] value
        ∙ ap (λ (w : Written). keyed_text (name ∷ []) value ++ w.text) newline_now

    text_now : text_of (bom_leaves now.bom) ++ ended_text (take (length now.ended) now.ended) ≡ text now
    text_now =
        let bom : List ℕ = text_of (bom_leaves now.bom) in
        ap (λ (es : List Ended). bom ++ ended_text es) (take_all (length now.ended) now.ended (omega arith))
        ∙ sym (text_is now
        ∙ ap (λ (t : List ℕ). bom ++ (ended_text now.ended ++ t)) (empty_text now.last last_now)
        ∙ ap (λ (t : List ℕ). bom ++ t) (append-nil (ended_text now.ended)))

    place_now : place now (insert path value) ≡ put_in (length (text now)) new_text
    place_now =
        place_is now path value name [] (length now.ended) (item_none path a name [] refl left) new_now ends_now
        (omega arith)
        ∙ ap₂ (λ (t new : List ℕ). put_in (length t) new) text_now line_now

    utf8_now : AllByRecursion IsUtf8 (keys_in path)
    utf8_now = subst (AllByRecursion IsUtf8) (sym keys_more) (all_utf8 keys h.utf8)
      where
        all_utf8 : (l : List (List ℕ)) → AllByRecursion IsUtf8 l → AllByRecursion IsUtf8 (l ++ name ∷ [])
        all_utf8 [] all = (utf8, tt)
        all_utf8 (x ∷ l) all = (all.0, all_utf8 l all.1)

    adds : AddsLine profile limit now path value (change_at (length (text now)) 0 new_text)
    adds = record {
      utf8 = utf8_now;
      given = fits.given;
      allowed = allowed_now;
      text = name;
      more = [];
      new = new_now;
      number = length now.ended;
      ends = ends_now;
      closed = omega arith;
      newline = inl (omega (arith, two_lines));
      adds = refl;
      is = place_now;
    }

    first_now : first_new now path ≡ path
    first_now = first_is now path name [] new_now ∙ ap (λ (q : List Part). q ++ key name ∷ []) holds

  pub header_opens : IsOpen profile limit (newline_of s).text (headed s content).to a []
  header_opens name value utf8 fits others = (adds name value utf8 fits, first_now name value utf8 fits)
