-- Through which tables the line leads that an insert adds to a table which dotted keys make.
--
-- Its key goes by the keys on the way to the holder, and by the new ones (DottedLine). So it leads through the holder
-- (`own_leads`), and through the tables above that in its body (`leads_above`). If it leads through another node, that
-- is on the way (`through`), since a longer one would begin with the path of the first new key. So it is not below the
-- holder (`below_fails`); and the line before it, whose key goes by the same keys, leads through the node, too: so the
-- last that does is no earlier line (`past_before`).
--
-- Theorems: `at_own`; `own_leads`, `leads_above`, `past_before`, `below_fails`.
use Rattle.std.proofs.Common.{◌≡◌, ℕ, ◌≤◌, true, false, List, [], ◌∷◌, ◌++◌, length, map, take, drop, refl, sym}
use Rattle.std.proofs.Common.{ap, ap₂, subst, ◌∙◌, append_assoc, length-append, arith, Option, Some, ◌⊎◌, inl, inr}
use Rattle.std.proofs.lemmas.List.{append-nil, map-append}
use Rattle.keep_types.specs.declared.leaf.Profile.{Profile}
use Rattle.keep_syntax.specs.Tree.{Written, Gap, Content, Value, Line, Document, blank, keyval, header, element}
use Rattle.keep_path.specs.Path.{Part, key}
use Rattle.keep_meaning.specs.Marks.{Mention, Reading, below, start}
use Rattle.keep_meaning.specs.Meaning.{keyed_mentions, keys_of, lines, mentions_in, reading_after_lines}
use Rattle.keep_meaning.specs.Nodes.{is_dotted, is_node}
use Rattle.keep_edit_spec.specs.DottedLines.{AddsDotted, IsAtOrBelow}
use Rattle.keep_edit_spec.specs.Edits.{name_with}
use Rattle.keep_edit_spec.specs.Lines.{last_line, leads_dotted, reading_at}
use Rattle.keep_edit_spec.specs.Look.{holder, keys_in}
use Rattle.keep_edit_spec.specs.TextChanges.{TextChange}
use Rattle.keep_edit_spec.proofs.Common.BodyEnd.{IsLast, last_found, take_before}
use Rattle.keep_edit_spec.proofs.Common.Doubles.{IsMentioned, has_some, some_has}
use Rattle.keep_edit_spec.proofs.Common.Runs.{SomeOf}
use Rattle.keep_edit_spec.proofs.Common.Stops.{Continues, dotted_prefix, some_mentioned_below, some_unbelow}
use Rattle.keep_edit_spec.proofs.Insert.DottedBase.{IsDottedFrom, own_from}
use Rattle.keep_edit_spec.proofs.Insert.InsertDotted.{IsDottedLine}
use Rattle.keep_edit_spec.proofs.Insert.NewPath.{drop_prefix_parts, keys_of_map}
use Rattle.keep_edit_spec.proofs.Lists.DottedLine as line
use Rattle.keep_edit_spec.proofs.Lists.NewHolder.{no_node}
use Rattle.keep_edit_spec.proofs.Lists.NewPaths.{dotted_keys, unsaid}
use Rattle.keep_edit_spec.proofs.Lists.OneLineMore.{at_most_last}

-- ---- the dots of a key

-- of each path on the way
said_before : (ks : List (List ℕ)) (y : List Part) (g : List ℕ) (gs back : List (List ℕ)) → Continues ks y
    → y ≡ map key (g ∷ (gs ++ back)) → SomeOf (IsMentioned is_dotted (map key (g ∷ gs))) (keyed_mentions ks [])
said_before ks y g gs back goes is =
    let d : IsDottedFrom (keyed_mentions ks []) y [] = own_from ks y [] goes in
    d.dots g gs back
    (sym (keys_of_map (d.first ∷ d.prefix)) ∙ ap keys_in (sym d.whole ∙ is) ∙ keys_of_map (g ∷ (gs ++ back)))

-- A line whose key leads through a path leads through those on the way.
shorter_by : (g : List ℕ) (gs back : List (List ℕ)) (r : Reading) (before after : Gap) (comment : Option Written)
    (c : Content)
    → (let l : Line = record { before = before; content = c; after = after; comment = comment } in
    leads_dotted (r.body ++ map key (g ∷ (gs ++ back))) r l ≡ true
    → leads_dotted (r.body ++ map key (g ∷ gs)) r l ≡ true)
shorter_by g gs back r before after comment blank h = absurd cc
shorter_by g gs back r before after comment (header b k x) h = absurd cc
shorter_by g gs back r before after comment (element b k x) h = absurd cc
shorter_by g gs back r before after comment (keyval name v) h =
    let ks : List (List ℕ) = keys_of name.key in
    let long : List Part = map key (g ∷ (gs ++ back)) in
    let u = some_unbelow is_dotted r.body (r.body ++ long) (keyed_mentions ks [])
    (has_some is_dotted (r.body ++ long) (map (below r.body) (keyed_mentions ks [])) h) in
    let is : u.0 ≡ long =
    sym (drop_prefix_parts r.body u.0) ∙ ap (drop (length r.body)) (sym u.1.0) ∙ drop_prefix_parts r.body long in
    some_has is_dotted (r.body ++ map key (g ∷ gs)) (map (below r.body) (keyed_mentions ks []))
    (some_mentioned_below is_dotted r.body (map key (g ∷ gs)) (keyed_mentions ks [])
    (said_before ks u.0 g gs back (dotted_prefix ks u.0 u.1.1) is))

leads_shorter : (g : List ℕ) (gs back : List (List ℕ)) (r : Reading) (l : Line)
    → leads_dotted (r.body ++ map key (g ∷ (gs ++ back))) r l ≡ true
    → leads_dotted (r.body ++ map key (g ∷ gs)) r l ≡ true
leads_shorter g gs back r l h = shorter_by g gs back r l.before l.after l.comment l.content h

-- Two lists with which one list begins: the first begins with the second, or the second goes on from the first.
either_first : (xs ys : List (List ℕ)) (t u : List ℕ) (ts us : List (List ℕ)) → xs ++ t ∷ ts ≡ ys ++ u ∷ us
    → ((z : List (List ℕ)) × (xs ≡ ys ++ z)) ⊎ ((z : List (List ℕ)) × (ys ≡ xs ++ t ∷ z))
either_first [] [] t u ts us e = inl ([], refl)
either_first [] (y ∷ ys) t u ts us e =
    let same : t ≡ y = cc in inr (ys, ap (λ (k : List ℕ). k ∷ ys) (sym same))
either_first (x ∷ xs) [] t u ts us e = inl (x ∷ xs, refl)
either_first (x ∷ xs) (y ∷ ys) t u ts us e =
    let same : x ≡ y = cc in
    let rest : xs ++ t ∷ ts ≡ ys ++ u ∷ us = cc in
    elim (either_first xs ys t u ts us rest) [
      | inl m ↦ inl (m.0, (let tail : xs ≡ ys ++ m.0 = m.1 in let whole : x ∷ xs ≡ y ∷ (ys ++ m.0) = cc in whole))
      | inr m ↦
          inr (m.0, (let tail : ys ≡ xs ++ t ∷ m.0 = m.1 in let whole : y ∷ ys ≡ x ∷ (xs ++ t ∷ m.0) = cc in whole))
    ]

-- Keys, as parts of a path, that begin with others.
begins_with : (xs ys : List (List ℕ)) (more : List Part) → map key xs ≡ map key ys ++ more → xs ≡ ys ++ keys_in more
begins_with xs [] more is = sym (keys_of_map xs) ∙ ap keys_in is
begins_with [] (y ∷ ys) more is = absurd cc
begins_with (x ∷ xs) (y ∷ ys) more is =
    let same : x ≡ y = cc in
    let rest : map key xs ≡ map key ys ++ more = cc in
    ap₂ (λ (k : List ℕ) (ks : List (List ℕ)). k ∷ ks) same (begins_with xs ys more rest)

-- ---- tables

-- a path is at itself
pub at_own : (path above : List Part) → path ≡ above → IsAtOrBelow path above
at_own path above same = ([], same ∙ sym (append-nil above))

-- ---- an insert that adds a line

module _ (profile : Profile) (limit : ℕ) (s : Document) (path : List Part) (value : Value) (c : TextChange)
    (h : AddsDotted profile limit s path value c) where
  abbrev ms : List Mention
  ms = mentions_in s

  abbrev a : List Part
  a = holder path ms

  abbrev n : ℕ
  n = line.n profile limit s path value c h

  abbrev body : List Part
  body = line.body profile limit s path value c h

  abbrev on_way : List (List ℕ)
  on_way = line.on_way profile limit s path value c h

  abbrev keys : List (List ℕ)
  keys = line.keys profile limit s path value c h

  -- as it is written
  abbrev written : List (List ℕ)
  written = keys_of (name_with keys).key

  abbrev pub r : Reading
  r = reading_after_lines start (take n (lines s))

  abbrev pub x : Line
  x = (line.x profile limit s path value c h).line

  abbrev before : IsDottedLine s a h.number
  before = line.before profile limit s path value c h

  means : written ≡ keys
  means = line.means profile limit s path value c h

  pub own_leads : leads_dotted a r x ≡ true
  own_leads =
      let goes : Continues keys (map key on_way) = record {
        first = before.first;
        prefix = before.prefix;
        next = h.text;
        more = h.more;
        whole = refl;
        path = refl;
      } in
      let said : SomeOf (IsMentioned is_dotted (map key on_way)) (keyed_mentions keys []) =
      said_before keys (map key on_way) before.first before.prefix [] goes
      (ap (λ (l : List (List ℕ)). map key (before.first ∷ l)) (sym (append-nil before.prefix))) in
      subst (λ (p : List Part). leads_dotted p r x ≡ true)
      (ap (λ (p : List Part). p ++ map key on_way) before.at_body ∙ sym before.whole)
      (some_has is_dotted (r.body ++ map key on_way) (map (below r.body) (keyed_mentions written []))
      (some_mentioned_below is_dotted r.body (map key on_way) (keyed_mentions written [])
      (subst (λ (ks : List (List ℕ)). SomeOf (IsMentioned is_dotted (map key on_way)) (keyed_mentions ks []))
      (sym means) said)))

  -- It leads through a table above that, in the same body.
  pub leads_above : (b : List Part) (g : List ℕ) (gs : List (List ℕ)) → b ≡ body ++ map key (g ∷ gs) → IsAtOrBelow a b
      → leads_dotted b r x ≡ true
  leads_above b g gs is (more, far) =
      let both : map key on_way ≡ map key (g ∷ gs) ++ more =
      sym (drop_prefix_parts body (map key on_way))
      ∙ ap (drop (length body))
      (sym before.whole ∙ far ∙ ap (λ (p : List Part). p ++ more) is ∙ append_assoc body (map key (g ∷ gs)) more)
      ∙ drop_prefix_parts body (map key (g ∷ gs) ++ more) in
      let way : on_way ≡ g ∷ (gs ++ keys_in more) = begins_with on_way (g ∷ gs) more both in
      subst (λ (p : List Part). leads_dotted p r x ≡ true)
      (ap (λ (p : List Part). p ++ map key (g ∷ gs)) before.at_body ∙ sym is)
      (leads_shorter g gs (keys_in more) r x
      (subst (λ (p : List Part). leads_dotted p r x ≡ true)
      (before.whole ∙ ap₂ (λ (p : List Part) (ks : List (List ℕ)). p ++ map key ks) (sym before.at_body) way)
      own_leads))

  -- ---- and another node

  module _ (b : List Part) (node : is_node b ms ≡ true) (j : ℕ)
      (last : last_line (leads_dotted b) start (lines s) ≡ Some j) where
    -- one on the way
    on_way_past : (g : List ℕ) (gs back : List (List ℕ)) → b ≡ body ++ map key (g ∷ gs)
        → on_way ≡ g ∷ (gs ++ back) → h.number ≤ j
    on_way_past g gs back is goes =
        let f : IsLast (leads_dotted a) start (lines s) h.number =
        last_found (leads_dotted a) start (lines s) h.number h.last in
        let q : Reading = reading_after_lines start f.pre in
        let reading : reading_at h.number (lines s) ≡ q =
        ap (λ (m : ℕ). reading_after_lines start (take m (lines s))) f.number
        ∙ ap (λ (ls : List Line). reading_after_lines start (take (length f.pre) ls)) f.was
        ∙ ap (reading_after_lines start) (take_before f.pre (f.here ∷ f.post)) in
        let own : q.body ≡ body = sym (ap (λ (z : Reading). z.body) reading) in
        let long : a ≡ q.body ++ map key (g ∷ (gs ++ back)) =
        before.whole ∙ ap₂ (λ (p : List Part) (ks : List (List ℕ)). p ++ map key ks) (sym own) goes in
        let short : q.body ++ map key (g ∷ gs) ≡ b =
        ap (λ (p : List Part). p ++ map key (g ∷ gs)) own ∙ sym is in
        let leads : leads_dotted b q f.here ≡ true =
        subst (λ (p : List Part). leads_dotted p q f.here ≡ true) short
        (leads_shorter g gs back q f.here
        (subst (λ (p : List Part). leads_dotted p q f.here ≡ true) long f.passes)) in
        subst (λ (m : ℕ). m ≤ j) (sym f.number)
        (at_most_last (leads_dotted b) start f.pre f.here f.post j leads
        (ap (last_line (leads_dotted b) start) (sym f.was) ∙ last))

    -- a longer one is no node
    none_longer : (z : List (List ℕ)) → b ≡ body ++ map key (on_way ++ h.text ∷ z) → ⊥
    none_longer z is =
        let longer : b ≡ (a ++ key h.text ∷ []) ++ map key z =
        is ∙ ap (λ (p : List Part). body ++ p) (map-append key on_way (h.text ∷ z))
        ∙ sym (append_assoc body (map key on_way) (map key (h.text ∷ z)))
        ∙ ap (λ (p : List Part). p ++ map key (h.text ∷ z)) (sym before.whole)
        ∙ sym (append_assoc a (key h.text ∷ []) (map key z)) in
        let no : is_node b ms ≡ false =
        ap (λ (p : List Part). is_node p ms) longer
        ∙ no_node s path a h.text h.more h.new
        (unsaid profile limit s path value (dotted_keys profile limit s path value c h)) (map key z) in
        absurd cc

    -- where it leads
    through : leads_dotted b r x ≡ true
        → (g : List ℕ) × ((gs : List (List ℕ)) × ((b ≡ body ++ map key (g ∷ gs))
        × ((back : List (List ℕ)) × (on_way ≡ g ∷ (gs ++ back)))))
    through leads =
        let u = some_unbelow is_dotted r.body b (keyed_mentions written [])
        (has_some is_dotted b (map (below r.body) (keyed_mentions written [])) leads) in
        let g : Continues keys u.0 =
        dotted_prefix keys u.0
        (subst (λ (ks : List (List ℕ)). SomeOf (IsMentioned is_dotted u.0) (keyed_mentions ks [])) means u.1.1) in
        let is : b ≡ body ++ map key (g.first ∷ g.prefix) =
        u.1.0 ∙ ap₂ (λ (p q : List Part). p ++ q) before.at_body g.path in
        elim (either_first on_way (g.first ∷ g.prefix) h.text g.next h.more g.more g.whole) [
          | inl m ↦ (g.first, (g.prefix, (is, (m.0, m.1))))
          | inr m ↦ absurd (none_longer m.0 (is ∙ ap (λ (ks : List (List ℕ)). body ++ map key ks) m.1))
        ]

    pub past_before : leads_dotted b r x ≡ true → h.number ≤ j
    past_before leads =
        let (g, (gs, (is, (back, goes)))) = through leads in on_way_past g gs back is goes

    -- not one below its table
    pub below_fails : (p : Part) (ps : List Part) → b ≡ a ++ p ∷ ps → leads_dotted b r x ≡ true → ⊥
    below_fails p ps below leads =
        let (g, (gs, (is, (back, goes)))) = through leads in
        let long : a ≡ b ++ map key back =
        before.whole ∙ ap (λ (ks : List (List ℕ)). body ++ map key ks) goes
        ∙ ap (λ (q : List Part). body ++ q) (map-append key (g ∷ gs) back)
        ∙ sym (append_assoc body (map key (g ∷ gs)) (map key back))
        ∙ ap (λ (q : List Part). q ++ map key back) (sym is) in
        absurd (omega (
          arith,
          ap length long,
          length-append b (map key back),
          ap length below,
          length-append a (p ∷ ps),
        ))
