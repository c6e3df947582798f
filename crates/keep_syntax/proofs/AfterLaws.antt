-- What is stored of lines comes after all that is counted before them, and ends with them: so it is held wherever the
-- text's end is.
--
-- Each place of an entry is where leaves begin or end that are in the line's. So it is between the line's start and its
-- end, by the widths of the leaves before it; and each number counts on from what comes before the line.
--
-- Theorem: `after_lines_hold`: all entries after replaced lines come after them, and lie in the text.
use Rattle.std.proofs.Common.{◌≡◌, ℕ, ◌+◌, ◌≤◌, Bool, true, false, List, [], ◌∷◌, ◌++◌, length, drop, refl, sym, ap}
use Rattle.std.proofs.Common.{subst, ◌∙◌, arith, append_assoc, Option, Some, None, ltb-true}
use Rattle.std.specs.Prelude.{ltb}
use Rattle.std.specs.List.{flat_map, AllByRecursion}
use Rattle.std.proofs.lemmas.List.{length-append}
use Rattle.std.proofs.Math.Seq.{drop-append_seam}
use Rattle.keep_types.specs.declared.leaf.Leaf.TheVariants as leaf
use Rattle.keep_types.specs.declared.leaf.Profile.{Profile}
use Rattle.keep_types.specs.declared.syntax.KeyPart.{KeyPart}
use Rattle.keep_types.specs.declared.syntax.Span.{Span}
use Rattle.keep_types.specs.declared.syntax.Start.{Start}
use Rattle.keep_types.specs.declared.syntax.Statement.{Statement}
use Rattle.keep_types.specs.declared.syntax.ValueInfo.{ValueInfo}
use Rattle.keep_syntax_store.specs.declared.moves.Counts.{Counts}
use Rattle.keep_syntax_store.specs.After.{IsBetweenThere, IsFromThere, IsFromOwner, IsAfterKey, IsAfterStatement}
use Rattle.keep_syntax_store.specs.After.{IsAfterValue, AreAfter}
use Rattle.keep_syntax_store.specs.Flat.{Flat, flat}
use Rattle.keep_syntax_store.specs.InPlace.{counts_through}
use Rattle.keep_syntax_store.specs.Rereading.{count_at, counts_at, joined}
use Rattle.keep_syntax_store.proofs.Shared.{all_append, if_false, if_true}
use Rattle.keep_syntax.specs.declared.syntax.Syntax.{Syntax}
use Rattle.keep_syntax.specs.Tree.{Written, Gap, Further, Key, Name, Body, scalar, array, inline, Entries, none, entry}
use Rattle.keep_syntax.specs.Tree.{Value, Content, blank, keyval, header, element, Line, Ended, Document, token}
use Rattle.keep_syntax.specs.Tree.{further_leaves, key_leaves, name_leaves, named_leaves, opening, closing}
use Rattle.keep_syntax.specs.Tree.{comma_leaves, entries_leaves, value_leaves, content_leaves, comment_leaves}
use Rattle.keep_syntax.specs.Tree.{line_leaves, ended_leaves, text_of, text}
use Rattle.keep_syntax.specs.Numbered.{width, Count, part_at, further_parts, key_parts, key_count, named_parts}
use Rattle.keep_syntax.specs.Numbered.{name_count, value_start, nested_start, value_end, comma_start, entry_end}
use Rattle.keep_syntax.specs.Numbered.{entries_parts, comma_place, info, owner_in, nested_of, rest_of, entries_values}
use Rattle.keep_syntax.specs.Numbered.{content_start, line_start, content_parts, content_values, content_statements}
use Rattle.keep_syntax.specs.Numbered.{line_statements, line_parts, line_values, next_line, first_line, over_lines}
use Rattle.keep_syntax.specs.Numbered.{after_lines}
use Rattle.keep_syntax.specs.FlatLines.{flat_of}
use Rattle.keep_syntax.specs.Contract.{CanReplace, MayReread}
use Rattle.keep_syntax.proofs.CountingLaws.{before_count, before_piece, counts_found, flat_before}
use Rattle.keep_syntax.proofs.GrowthLaws.{width-append}
use Rattle.keep_syntax.proofs.LineNumberingLaws.{after_lines-at}
use Rattle.keep_syntax.proofs.PieceLaws.{lines_piece}
use Rattle.keep_syntax.proofs.RereadLaws.{bytes_join, lines_of}
use Rattle.keep_syntax.proofs.SplitLaws.{bytes_of, text_length}

-- ---- widths of parts

width_key : (k : Key) → width (key_leaves k) ≡ length k.first.text + width (flat_map further_leaves k.more)
width_key k = length-append k.first.text (text_of (flat_map further_leaves k.more))

width_further : (f : Further) (fs : List Further)
    → width (flat_map further_leaves (f ∷ fs)) ≡ width f.before + 1 + width f.after + length f.part.text
    + width (flat_map further_leaves fs)
width_further f fs =
    let d : List Written = token leaf.Dot (0x2E ∷ []) in
    omega (
      arith,
      width-append (further_leaves f) (flat_map further_leaves fs),
      width-append f.before (d ++ (f.after ++ (f.part ∷ []))),
      width-append d (f.after ++ (f.part ∷ [])),
      width-append f.after (f.part ∷ []),
      length-append f.part.text [],
    )

width_entry : (name : Option Name) (body : Body) (nested : Entries) (after : Gap) (comma : Option Gap) (rest : Entries)
    → width (entries_leaves (entry name body nested after comma rest))
    ≡ width (named_leaves name) + (width (opening body)
    + (width (entries_leaves nested)
    + (width (closing body) + (width after + (width (comma_leaves comma) + width (entries_leaves rest))))))
width_entry name body nested after comma rest =
    let n = named_leaves name in
    let o = opening body in
    let i = entries_leaves nested in
    let c = closing body in
    let k = comma_leaves comma in
    let r = entries_leaves rest in
    omega (
      arith,
      width-append n (o ++ (i ++ (c ++ (after ++ (k ++ r))))),
      width-append o (i ++ (c ++ (after ++ (k ++ r)))),
      width-append i (c ++ (after ++ (k ++ r))),
      width-append c (after ++ (k ++ r)),
      width-append after (k ++ r),
      width-append k r,
    )

width_value : (v : Value)
    → width (value_leaves v) ≡ width (opening v.body) + (width (entries_leaves v.nested) + width (closing v.body))
width_value v =
    omega (
      arith,
      width-append (opening v.body) (entries_leaves v.nested ++ closing v.body),
      width-append (entries_leaves v.nested) (closing v.body),
    )

width_line : (l : Line)
    → width (line_leaves l) ≡ width l.before
    + (width (content_leaves l.content) + (width l.after + width (comment_leaves l.comment)))
width_line l =
    omega (
      arith,
      width-append l.before (content_leaves l.content ++ (l.after ++ comment_leaves l.comment)),
      width-append (content_leaves l.content) (l.after ++ comment_leaves l.comment),
      width-append l.after (comment_leaves l.comment),
    )

-- what is counted before a place is counted before a later one
record IsFrom (c d : Count) : Type 0 where
  at : c.at ≤ d.at
  statements : c.statements ≤ d.statements
  parts : c.parts ≤ d.parts
  values : c.values ≤ d.values

from_next : (c d : Count) (e : Ended) → IsFrom c d → IsFrom c (next_line d e)
from_next c d e h =
    record {
      at = omega (arith, h.at);
      statements = omega (arith, h.statements);
      parts = omega (arith, h.parts);
      values = omega (arith, h.values);
    }

module _ (c : Count) (high : ℕ) where
  -- ---- key parts

  abbrev Keys : List KeyPart → Type 0
  Keys ks = AllByRecursion (IsAfterKey c high) ks

  part_after : (at : ℕ) (w : Written) → c.at ≤ at → at + length w.text ≤ high → IsAfterKey c high (part_at at w)
  part_after at w low h = record {
    span = record {
      start = record { low = low; high = omega (arith, h) };
      end = record { low = omega (arith, low); high = h };
    };
  }

  further_after : (at : ℕ) (fs : List Further) → c.at ≤ at → at + width (flat_map further_leaves fs) ≤ high
      → Keys (further_parts at fs)
  further_after at [] low h = tt
  further_after at (f ∷ fs) low h =
      let from : ℕ = at + width f.before + 1 + width f.after in (
        part_after from f.part (omega (arith, low)) (omega (arith, h, width_further f fs)),
        further_after (from + length f.part.text) fs (omega (arith, low)) (omega (arith, h, width_further f fs)),
      )

  key_after : (at : ℕ) (k : Key) → c.at ≤ at → at + width (key_leaves k) ≤ high → Keys (key_parts at k)
  key_after at k low h = (
    part_after at k.first low (omega (arith, h, width_key k)),
    further_after (at + length k.first.text) k.more (omega (arith, low)) (omega (arith, h, width_key k)),
  )

  name_after : (at : ℕ) (n : Name) → c.at ≤ at → at + width (name_leaves n) ≤ high → Keys (key_parts at n.key)
  name_after at n low h =
      key_after at n.key low (omega (
        arith,
        h,
        width-append (key_leaves n.key) (n.before ++ (token leaf.Equals (0x3D ∷ []) ++ n.after)),
      ))

  named_after : (at : ℕ) (name : Option Name) → c.at ≤ at → at + width (named_leaves name) ≤ high
      → Keys (named_parts at name)
  named_after at None low h = tt
  named_after at (Some n) low h = name_after at n low h

  entries_keys : (at : ℕ) (es : Entries) → c.at ≤ at → at + width (entries_leaves es) ≤ high
      → Keys (entries_parts at es)
  entries_keys at none low h = tt
  entries_keys at (entry name body nested after comma rest) low h =
      let size = width_entry name body nested after comma rest in
      let first : ℕ = nested_start (value_start at name) body in
      let next : ℕ = entry_end at name body nested after comma in
      all_append (IsAfterKey c high) (named_parts at name) (entries_parts first nested ++ entries_parts next rest)
      (named_after at name low (omega (arith, h, size)))
      (all_append (IsAfterKey c high) (entries_parts first nested) (entries_parts next rest)
      (entries_keys first nested (omega (arith, low)) (omega (arith, h, size)))
      (entries_keys next rest (omega (arith, low)) (omega (arith, h, size))))

  content_keys : (at : ℕ) (k : Content) → c.at ≤ at → at + width (content_leaves k) ≤ high → Keys (content_parts at k)
  content_keys at blank low h = tt
  content_keys at (keyval name value) low h =
      let size = width-append (name_leaves name) (value_leaves value) in
      let first : ℕ = nested_start (at + width (name_leaves name)) value.body in
      all_append (IsAfterKey c high) (key_parts at name.key) (entries_parts first value.nested)
      (name_after at name low (omega (arith, h, size)))
      (entries_keys first value.nested (omega (arith, low)) (omega (arith, h, size, width_value value)))
  content_keys at (header before key after) low h =
      let o : List Written = token leaf.HeadOpen (0x5B ∷ []) in
      let e : List Written = after ++ token leaf.HeadClose (0x5D ∷ []) in
      key_after (at + 1 + width before) key (omega (arith, low))
      (omega (
        arith,
        h,
        width-append o (before ++ (key_leaves key ++ e)),
        width-append before (key_leaves key ++ e),
        width-append (key_leaves key) e,
      ))
  content_keys at (element before key after) low h =
      let o : List Written = token leaf.ElemOpen (0x5B ∷ 0x5B ∷ []) in
      let e : List Written = after ++ token leaf.ElemClose (0x5D ∷ 0x5D ∷ []) in
      key_after (at + 2 + width before) key (omega (arith, low))
      (omega (
        arith,
        h,
        width-append o (before ++ (key_leaves key ++ e)),
        width-append before (key_leaves key ++ e),
        width-append (key_leaves key) e,
      ))

  -- ---- values

  abbrev Values : List ValueInfo → Type 0
  Values vs = AllByRecursion (IsAfterValue c high) vs

  -- entries begin after the count
  record Begin (p : Start) : Type 0 where
    at : c.at ≤ p.at
    values : c.values ≤ p.values
    parts : c.parts ≤ p.parts
    owner : IsFromOwner c p.owner
    comma : IsBetweenThere c.at high p.comma

  owner_after : (body : Body) (v : ℕ) → c.values ≤ v → IsFromOwner c (owner_in body v)
  owner_after (scalar w) v h = h
  owner_after (array first) v h = h
  owner_after (inline first) v h = h

  comma_after : (at : ℕ) (comma : Option Gap) → c.at ≤ at → at + width (comma_leaves comma) ≤ high
      → IsBetweenThere c.at high (comma_place at comma)
  comma_after at None low h = tt
  comma_after at (Some after) low h = record { low = low; high = omega (arith, h) }

  info_after : (p : Start) (at keys : ℕ) (body : Body) (nested : Entries) (comma : Option ℕ) → Begin p → p.at ≤ at
      → value_end at body nested ≤ high → IsBetweenThere c.at high comma
      → IsAfterValue c high (info p at keys body nested comma)
  info_after p at keys body nested comma b low h k = record {
    span = record {
      start = record { low = omega (arith, b.at, low); high = omega (arith, h) };
      end = record { low = omega (arith, b.at, low); high = h };
    };
    whole = record {
      start = record { low = b.at; high = omega (arith, low, h) };
      end = record { low = omega (arith, b.at, low); high = h };
    };
    owner = b.owner;
    first_key = b.parts;
    comma_before = b.comma;
    comma_after = k;
  }

  begin_nested : (p : Start) (at keys : ℕ) (body : Body) → Begin p → p.at ≤ at → Begin (nested_of p at keys body)
  begin_nested p at keys body b low = record {
    at = omega (arith, b.at, low);
    values = omega (arith, b.values);
    parts = omega (arith, b.parts);
    owner = owner_after body p.values b.values;
    comma = tt;
  }

  entries_after : (p : Start) (es : Entries) → Begin p → p.at + width (entries_leaves es) ≤ high
      → Values (entries_values p es)
  entries_after p none b h = tt
  entries_after p (entry name body nested after comma rest) b h =
      let size = width_entry name body nested after comma rest in
      let at : ℕ = value_start p.at name in
      let place : ℕ = comma_start p.at name body nested after in
      let here : IsBetweenThere c.at high (comma_place place comma) =
      comma_after place comma (omega (arith, b.at)) (omega (arith, h, size)) in
      let q : Start = rest_of p name body nested after comma in
      let in_value : Start = nested_of p at (name_count name) body in (
        info_after p at (name_count name) body nested (comma_place place comma) b (omega arith) (omega (arith, h, size))
            here,
        all_append (IsAfterValue c high) (entries_values in_value nested) (entries_values q rest)
            (entries_after in_value nested (begin_nested p at (name_count name) body b (omega arith))
            (omega (arith, h, size)))
            (entries_after q rest (record {
              at = omega (arith, b.at);
              values = omega (arith, b.values);
              parts = omega (arith, b.parts);
              owner = b.owner;
              comma = here;
            }) (omega (arith, h, size))),
      )

  content_after : (p : Start) (k : Content) → Begin p → p.at + width (content_leaves k) ≤ high
      → Values (content_values p k)
  content_after p blank b h = tt
  content_after p (keyval name value) b h =
      let size = width-append (name_leaves name) (value_leaves value) in
      let at : ℕ = p.at + width (name_leaves name) in (
        info_after p at (key_count name.key) value.body value.nested None b (omega arith)
            (omega (arith, h, size, width_value value)) tt,
        entries_after (nested_of p at (key_count name.key) value.body) value.nested
            (begin_nested p at (key_count name.key) value.body b (omega arith))
            (omega (arith, h, size, width_value value)),
      )
  content_after p (header before key after) b h = tt
  content_after p (element before key after) b h = tt

  -- ---- lines

  abbrev OfLine : {A : Type 0} → (A → Type 0) → (Count → Line → ℕ → List A) → Type 0
  OfLine P f =
      (d : Count) (l : Line) (end : ℕ) → IsFrom c d → d.at + width (line_leaves l) ≤ end → end ≤ high
      → AllByRecursion P (f d l end)

  line_keys : OfLine (IsAfterKey c high) (λ d l end. line_parts d l)
  line_keys d l end from size h =
      content_keys (content_start d l) l.content (omega (arith, from.at)) (omega (arith, size, h, width_line l))

  line_infos : OfLine (IsAfterValue c high) (λ d l end. line_values d l)
  line_infos d l end from size h =
      content_after (line_start d l) l.content
      (record {
        at = omega (arith, from.at);
        values = from.values;
        parts = from.parts;
        owner = from.statements;
        comma = tt;
      })
      (omega (arith, size, h, width_line l))

  line_states : OfLine (IsAfterStatement c high) line_statements
  line_states d l end from size h = by l.content refl
    where
      made : (s : Statement) → s.span.start ≡ content_start d l
          → s.span.end ≡ content_start d l + width (content_leaves l.content) → s.line.start ≡ d.at → s.line.end ≡ end
          → s.first_key ≡ d.parts → IsFromThere c.values s.value
          → IsAfterStatement c high s
      made s a b e f k v = record {
        span = record {
          start = record { low = omega (arith, a, from.at); high = omega (arith, a, size, h, width_line l) };
          end = record { low = omega (arith, b, from.at); high = omega (arith, b, size, h, width_line l) };
        };
        line = record {
          start = record { low = omega (arith, e, from.at); high = omega (arith, e, size, h) };
          end = record { low = omega (arith, f, from.at, size); high = omega (arith, f, h) };
        };
        first_key = omega (arith, k, from.parts);
        value = v;
      }

      by : (k : Content) → l.content ≡ k → AllByRecursion (IsAfterStatement c high) (content_statements d l end k)
      by blank e = tt
      by (keyval name value) e = (made _ refl refl refl refl refl from.values, tt)
      by (header before key after) e = (made _ refl refl refl refl refl tt, tt)
      by (element before key after) e = (made _ refl refl refl refl refl tt, tt)

  over_after : {A : Type 0} (P : A → Type 0) (f : Count → Line → ℕ → List A) → OfLine P f
      → (d : Count) (es : List Ended) (last : Line) → IsFrom c d
      → d.at + (width (flat_map ended_leaves es) + width (line_leaves last)) ≤ high
      → AllByRecursion P (over_lines f d es last)
  over_after P f one d [] last from h =
      one d last (d.at + width (line_leaves last)) from (omega arith) (omega (arith, h))
  over_after P f one d (e ∷ es) last from h =
      let size = width-append (ended_leaves e) (flat_map ended_leaves es) in
      all_append P (f d e.line (d.at + width (ended_leaves e))) (over_lines f (next_line d e) es last)
      (one d e.line (d.at + width (ended_leaves e)) from
      (omega (arith, width-append (line_leaves e.line) (e.newline ∷ []))) (omega (arith, h, size)))
      (over_after P f one (next_line d e) es last (from_next c d e from) (omega (arith, h, size)))

-- ---- after replaced lines

from_same : (c d : Count) → c ≡ d → IsFrom c d
from_same c d e =
    subst (λ (k : Count). IsFrom c k) e
    (record { at = omega arith; statements = omega arith; parts = omega arith; values = omega arith })

none_after : (len : ℕ) (f : Flat) → AreAfter (counts_at len f) len f
none_after len f = record {
  statements = subst (AllByRecursion (IsAfterStatement (count_at len f) len)) (sym (drop_all f.statements)) tt;
  keys = subst (AllByRecursion (IsAfterKey (count_at len f) len)) (sym (drop_all f.keys)) tt;
  values = subst (AllByRecursion (IsAfterValue (count_at len f) len)) (sym (drop_all f.values)) tt;
}
  where
    drop_all : {A : Type 0} (xs : List A) → drop (length xs) xs ≡ []
    drop_all [] = refl
    drop_all (x ∷ xs) = drop_all xs

joined_after : (x : Flat) (d : Count) (es : List Ended) (last : Line) (place high : ℕ) → count_at place x ≡ d
    → place + (width (flat_map ended_leaves es) + width (line_leaves last)) ≤ high
    → AreAfter (counts_at place x) high (joined x (lines_piece d es last))
joined_after x d es last place high e h =
    let c : Count = count_at place x in
    let y : Flat = lines_piece d es last in
    let from = from_same c d e in
    let size : d.at + (width (flat_map ended_leaves es) + width (line_leaves last)) ≤ high =
    omega (arith, h, ap (λ (k : Count). k.at) e) in
    record {
      statements =
          subst (AllByRecursion (IsAfterStatement c high)) (sym (drop-append_seam x.statements y.statements))
          (over_after c high (IsAfterStatement c high) line_statements (line_states c high) d es last from size);
      keys = subst (AllByRecursion (IsAfterKey c high)) (sym (drop-append_seam x.keys y.keys))
          (over_after c high (IsAfterKey c high) (λ d l end. line_parts d l) (line_keys c high) d es last from size);
      values =
          subst (AllByRecursion (IsAfterValue c high)) (sym (drop-append_seam x.values y.values))
          (over_after c high (IsAfterValue c high) (λ d l end. line_values d l) (line_infos c high) d es last from
          size);
    }

pub after_lines_hold : {profile : Profile} {limit : ℕ} {d : Document} {whole : Span} {bytes : List ℕ} {m : Document}
    (h : CanReplace profile limit d whole bytes m) (len : ℕ) → len ≡ length (text d)
    → AreAfter (counts_through (flat_of d) whole len) len (flat_of d)
after_lines_hold {profile} {limit} {d} {whole} {bytes} {m} h len long = by (ltb whole.end len) refl
  where
    by : (b : Bool) → ltb whole.end len ≡ b → AreAfter (counts_through (flat_of d) whole len) len (flat_of d)
    by true t =
        let s = lines_of h in
        let c0 : Count = first_line d in
        let before : List Ended = s.prefix ++ s.gone in
        let x : Flat = before_piece d before in
        let y : Flat = lines_piece (after_lines c0 before) s.back d.last in
        let e : d.ended ≡ before ++ s.back = s.all ∙ sym (append_assoc s.prefix s.gone s.back) in
        let there = s.end_is (omega (arith, ltb-true whole.end len t, long)) in
        let place : whole.end ≡ (after_lines c0 before).at =
        omega (arith, there, s.start_is, bytes_join s.prefix s.gone, after_lines-at c0 before) in
        let size : whole.end + (width (flat_map ended_leaves s.back) + width (line_leaves d.last)) ≤ len =
        omega (
          arith,
          long,
          text_length d,
          ap bytes_of e,
          bytes_join before s.back,
          there,
          s.start_is,
          bytes_join s.prefix s.gone,
        ) in
        subst (λ (k : Counts). AreAfter k len (flat_of d))
        (sym (if_true (ltb whole.end len) _ _ t ∙ counts_found profile d before s.back whole.end h.valid e place))
        (subst (λ (f : Flat). AreAfter (counts_at whole.end x) len f) (sym (flat_before d before s.back e))
        (joined_after x (after_lines c0 before) s.back d.last whole.end len (before_count d before whole.end place)
        size))
    by false t =
        subst (λ (k : Counts). AreAfter k len (flat_of d)) (sym (if_false (ltb whole.end len) _ _ t))
        (none_after len (flat_of d))

pub may_move_after : {profile : Profile} {limit : ℕ} {s : Syntax} {whole : Span} {bytes : List ℕ}
    → MayReread profile limit s whole bytes → AreAfter (counts_through (flat s.parts) whole s.len) s.len (flat s.parts)
may_move_after {s = s} {whole = whole} h =
    subst (λ (f : Flat). AreAfter (counts_through f whole s.len) s.len f) (sym h.is.stored)
    (after_lines_hold h.can s.len h.is.len)
