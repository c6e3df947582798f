-- Tables of dotted keys that are mentioned once more, and then once less.
--
-- Where each of some tables has one mention more, and any number of a last keyval, taking these mentions away gives the
-- nodes that were (`marks_gone`). The tables are done from the lowest one up, so the nodes one step below a table have
-- what they had, and the last of their values is that of the table (`HasLast`). Where a line of new keys goes too, a
-- mention more of tables before its nodes is still one mention more (`marks_stay`).
--
-- Theorems: `marks_gone`, `marks_stay`.
use Rattle.std.proofs.Common.{◌≡◌, ℕ, zero, suc, ◌+◌, ◌-◌, ◌<◌, ◌≤◌, ◌≢◌, Bool, true, false, cond, List, [], ◌∷◌}
use Rattle.std.proofs.Common.{◌++◌, get_or, length, map, refl, sym, ap, ap₂, subst, ◌∙◌, arith}
use Rattle.std.specs.Prelude.{⊤, drop, max, slice_set, take}
use Rattle.std.specs.List.{remove}
use Rattle.std.proofs.lemmas.Bool.{and_parts, false_from_ne_true}
use Rattle.std.proofs.lemmas.List.{drop-set-lt, get_or-set_other, get_or-set_same, length-append, length-map}
use Rattle.std.proofs.lemmas.List.{length-set, length-take-le, map-set, set-append_left, set-get_or, set-set, set_comm}
use Rattle.std.proofs.Math.Seq.{take-set-lt}
use Rattle.keep_types.specs.declared.node.Kind.{Kind}
use Rattle.keep_types.specs.declared.node.NodeInfo.{NodeInfo}
use Rattle.keep_types.specs.declared.node.Origin.{Origin}
use Rattle.keep_types.specs.declared.node.Origin.TheVariants as origin
use Rattle.keep_path.specs.Dots.{after_parts, info_with_dots, totals_after_parts, with_dots, without_keys}
use Rattle.keep_path.specs.NodeInfos.{LineNumbers, NodeInfos, earlier_number, no_info, renumbered}
use Rattle.keep_path.specs.NodesBelow.{Totals, info_beside, one_more, shifted, value_of, with_numbers}
use Rattle.keep_path.specs.Path.{Part, same_part}
use Rattle.keep_meaning.specs.DotsLess.{info_without_dots, last_value, last_value_below, without_dots}
use Rattle.keep_meaning.specs.Nodes.{is_child}
use Rattle.keep_meaning.proofs.LineNumberLemmas.{AllOf}

-- ---- one mention more

-- with one mention more, and this number of the last keyval that continues from it
abbrev pub marked : ℕ → NodeInfo → NodeInfo
marked w i = record i { marks = suc i.marks; origin = origin.Dotted w }

abbrev pub with_mark : ℕ → ℕ → NodeInfos → NodeInfos
with_mark id w t = record t { infos = slice_set t.infos id (marked w (get_or t.infos id no_info)) }

-- the second nodes are the first, with one mention more of each of these tables
abbrev pub AreMarked : List ℕ → NodeInfos → NodeInfos → Type 0
AreMarked [] t u = u ≡ t
AreMarked (id ∷ ids) t u = (w : ℕ) × AreMarked ids (with_mark id w t) u

-- a table of dotted keys, whose number is that of the last value below it
pub record HasLast (t : NodeInfos) (id : ℕ) : Type 0 where
  pub within : id < length t.infos
  pub last : (get_or t.infos id no_info).origin ≡ origin.Dotted (last_value_below t id)

-- each of these nodes has a shorter path than those after it
abbrev pub AreDeeper : List (List Part) → List ℕ → Type 0
AreDeeper ps [] = ⊤
AreDeeper ps (id ∷ ids) = AllOf (λ j. length (get_or ps id []) < length (get_or ps j [])) ids × AreDeeper ps ids

-- ---- nodes that are no children

child_longer : (p q : List Part) → is_child p q ≡ true → length q ≡ suc (length p)
child_longer [] [] h = absurd cc
child_longer [] (y ∷ []) h = refl
child_longer [] (y ∷ z ∷ ys) h = absurd cc
child_longer (x ∷ xs) [] h = absurd cc
child_longer (x ∷ xs) (y ∷ ys) h = ap suc (child_longer xs ys (and_parts (same_part x y) (is_child xs ys) h).1)

not_child : (p q : List Part) → length q ≤ length p → is_child p q ≡ false
not_child p q short = false_from_ne_true (is_child p q) (λ e. omega (arith, short, child_longer p q e))

last_value_other : (path : List Part) (ps : List (List Part)) (is : List NodeInfo) (id : ℕ) (x : NodeInfo)
    → is_child path (get_or ps id []) ≡ false → last_value path ps (slice_set is id x) ≡ last_value path ps is
last_value_other path [] is id x other = refl
last_value_other path (p ∷ ps) [] zero x other = refl
last_value_other path (p ∷ ps) [] (suc id) x other = refl
last_value_other path (p ∷ ps) (i ∷ is) zero x other =
    let more : ℕ = last_value path ps is in
    ap (λ (b : Bool). cond b (max (value_of x) more) more) other
    ∙ sym (ap (λ (b : Bool). cond b (max (value_of i) more) more) other)
last_value_other path (p ∷ ps) (i ∷ is) (suc id) x other =
    ap (λ (n : ℕ). cond (is_child path p) (max (value_of i) n) n) (last_value_other path ps is id x other)

last_below_other : (t : NodeInfos) (id w j : ℕ) → length (get_or t.paths id []) ≤ length (get_or t.paths j [])
    → last_value_below (with_mark id w t) j ≡ last_value_below t j
last_below_other t id w j short =
    last_value_other (get_or t.paths j []) t.paths t.infos id (marked w (get_or t.infos id no_info))
    (not_child (get_or t.paths j []) (get_or t.paths id []) short)

-- ---- one mention less

info_back : (v w : ℕ) (i : NodeInfo) → i.origin ≡ origin.Dotted w → info_without_dots w (marked v i) ≡ i
info_back v w i from =
    let fewer : suc i.marks - 1 ≡ i.marks = omega arith in
    ap₂ (λ (n : ℕ) (o : Origin). let j : NodeInfo = record i { marks = n; origin = o } in j) fewer (sym from)

abbrev without_mark : ℕ → NodeInfos → NodeInfos
without_mark id t = record t {
  infos = slice_set t.infos id (info_without_dots (last_value_below t id) (get_or t.infos id no_info));
}

mark_gone : (t : NodeInfos) (id w : ℕ) → HasLast t id → without_mark id (with_mark id w t) ≡ t
mark_gone t id w h =
    let i : NodeInfo = get_or t.infos id no_info in
    let v : ℕ = last_value_below t id in
    let back : info_without_dots (last_value_below (with_mark id w t) id)
    (get_or (slice_set t.infos id (marked w i)) id no_info)
    ≡ i =
    ap₂ info_without_dots (last_below_other t id w id (omega arith))
    (get_or-set_same t.infos id (marked w i) no_info h.within)
    ∙ info_back w v i h.last in
    ap (λ (is : List NodeInfo). let u : NodeInfos = record t { infos = is } in u)
    (ap (slice_set (slice_set t.infos id (marked w i)) id) back ∙ set-set t.infos id (marked w i) i
    ∙ set-get_or t.infos id no_info)

last_stays : (t : NodeInfos) (id w : ℕ) (ids : List ℕ) → AllOf (HasLast t) ids
    → AllOf (λ j. length (get_or t.paths id []) < length (get_or t.paths j [])) ids
    → AllOf (HasLast (with_mark id w t)) ids
last_stays t id w [] h low = tt
last_stays t id w (j ∷ ids) h low = (
  record {
    within = omega (arith, h.0.within, length-set t.infos id (marked w (get_or t.infos id no_info)));
    last = ap (λ (i : NodeInfo). i.origin)
        (get_or-set_other t.infos id j (marked w (get_or t.infos id no_info)) no_info other)
        ∙ h.0.last ∙ ap origin.Dotted (sym (last_below_other t id w j (omega (arith, low.0))));
  },
  last_stays t id w ids h.1 low.1,
)
  where
    other : j ≢ id
    other e =
        let same : length (get_or t.paths j []) ≡ length (get_or t.paths id []) =
        ap (λ (n : ℕ). length (get_or t.paths n [])) e in
        omega (arith, low.0, same)

pub marks_gone : (ids : List ℕ) (t u : NodeInfos) → AreMarked ids t u → AllOf (HasLast t) ids → AreDeeper t.paths ids
    → without_dots ids u ≡ t
marks_gone [] t u h known order = h
marks_gone (id ∷ ids) t u h known order =
    ap (without_mark id)
    (marks_gone ids (with_mark id h.0 t) u h.1 (last_stays t id h.0 ids known.1 order.0) order.1)
    ∙ mark_gone t id h.0 known.0

-- ---- where a line of new keys goes

set_joined : {A : Type 0} (n k i : ℕ) (xs : List A) (x : A) → i < n → n ≤ k → n ≤ length xs
    → take n (slice_set xs i x) ++ drop k (slice_set xs i x) ≡ slice_set (take n xs ++ drop k xs) i x
set_joined n k i xs x low far many =
    let within : i < length (take n xs) = omega (arith, low, length-take-le n xs many) in
    ap₂ (λ (us vs : List _). us ++ vs) (take-set-lt n xs i x low) (drop-set-lt k xs i x (omega (arith, low, far)))
    ∙ sym (set-append_left (take n xs) (drop k xs) i x within)

module _ (at gone m : ℕ) (line : LineNumbers) (old new : Totals) (k : Kind) where
  -- the nodes without those of the line's new keys
  abbrev pub rest_of : NodeInfos → NodeInfos
  rest_of t = without_keys t at gone m line old new k

  abbrev beside : NodeInfo → NodeInfo → NodeInfo
  beside own = info_beside own old (one_more (totals_after_parts m new))

  abbrev kept : List NodeInfo → List NodeInfo
  kept is = take (suc at) is ++ drop (suc at + gone) is

  abbrev earlier : NodeInfo → NodeInfo
  earlier = renumbered earlier_number (after_parts m line)

  abbrev lower : NodeInfo → NodeInfo
  lower = with_numbers (λ v. v) (shifted (line.key + m) m 0)

  abbrev infos_by : NodeInfo → List NodeInfo → List NodeInfo
  infos_by own is =
      map lower (map earlier (remove (kept (map (beside own) (slice_set is at (record own { kind = k })))) at))

  -- what a node before the line's is then
  abbrev info_then : NodeInfo → NodeInfo → NodeInfo
  info_then own i = lower (earlier (beside own i))

  infos_are : (t : NodeInfos) → (rest_of t).infos ≡ infos_by (get_or t.infos at no_info) t.infos
  infos_are t = refl

  kept_many : (is : List NodeInfo) → at < length is → at < length (kept is)
  kept_many is many = omega (
    arith,
    length-append (take (suc at) is) (drop (suc at + gone) is),
    length-take-le (suc at) is (omega (arith, many)),
  )

  infos_many : (own : NodeInfo) (is : List NodeInfo) (i : ℕ) → i < at → at < length is → i < length (infos_by own is)
  infos_many own is i low many =
      let us : List NodeInfo = slice_set is at (record own { kind = k }) in
      let vs : List NodeInfo = kept (map (beside own) us) in
      let whole : at < length vs =
      kept_many (map (beside own) us)
      (omega (arith, many, length-map us (beside own), length-set is at (record own { kind = k }))) in
      omega (
        arith,
        low,
        length-map (map earlier (remove vs at)) lower,
        length-map (remove vs at) earlier,
        length-append (take at vs) (drop (suc at) vs),
        length-take-le at vs (omega (arith, whole)),
      )

  infos_set : (own : NodeInfo) (is : List NodeInfo) (i : ℕ) (x : NodeInfo) → i < at → at < length is
      → infos_by own (slice_set is i x) ≡ slice_set (infos_by own is) i (info_then own x)
  infos_set own is i x low many =
      let o : NodeInfo = record own { kind = k } in
      let us : List NodeInfo = slice_set is at o in
      let bs : List NodeInfo = map (beside own) us in
      let apart : i ≢ at = λ e. omega (arith, low, e) in
      let few : at < length bs = omega (arith, many, length-map us (beside own), length-set is at o) in
      ap (λ (l : List NodeInfo). map lower (map earlier (remove (kept (map (beside own) l)) at)))
      (set_comm is i at x o apart)
      ∙ ap (λ (l : List NodeInfo). map lower (map earlier (remove (kept l) at))) (map-set (beside own) us i x)
      ∙ ap (λ (l : List NodeInfo). map lower (map earlier (remove l at)))
      (set_joined (suc at) (suc at + gone) i bs (beside own x) (omega (arith, low)) (omega arith) (omega (arith, few)))
      ∙ ap (λ (l : List NodeInfo). map lower (map earlier l))
      (set_joined at (suc at) i (kept bs) (beside own x) low (omega arith) (omega (arith, kept_many bs few)))
      ∙ ap (map lower) (map-set earlier (remove (kept bs) at) i (beside own x))
      ∙ map-set lower (map earlier (remove (kept bs) at)) i (earlier (beside own x))

  module _ (t : NodeInfos) (i : ℕ) (low : i < at) (many : at < length t.infos) where
    abbrev own : NodeInfo
    own = get_or t.infos at no_info

    rest_set : (x : NodeInfo)
        → rest_of (record t { infos = slice_set t.infos i x })
        ≡ record (rest_of t) { infos = slice_set (rest_of t).infos i (info_then own x) }
    rest_set x =
        ap (λ (is : List NodeInfo). let u : NodeInfos = record (rest_of t) { infos = is } in u)
        (ap (λ (o : NodeInfo). infos_by o (slice_set t.infos i x))
        (get_or-set_other t.infos i at x no_info (λ e. omega (arith, low, e)))
        ∙ infos_set own t.infos i x low many)

    rest_there : get_or (rest_of t).infos i no_info ≡ info_then own (get_or t.infos i no_info)
    rest_there =
        let x : NodeInfo = get_or t.infos i no_info in
        ap (λ (is : List NodeInfo). get_or is i no_info)
        (ap (infos_by own) (sym (set-get_or t.infos i no_info)) ∙ infos_set own t.infos i x low many)
        ∙ get_or-set_same (rest_of t).infos i (info_then own x) no_info (infos_many own t.infos i low many)

    abbrev pub number_then : NodeInfo → ℕ
    number_then x = value_of (info_then own x)

    mark_stays : (v : ℕ)
        → rest_of (record t { infos = slice_set t.infos i (info_with_dots v (get_or t.infos i no_info)) })
        ≡ with_mark i (number_then (info_with_dots v (get_or t.infos i no_info))) (rest_of t)
    mark_stays v =
        let x : NodeInfo = info_with_dots v (get_or t.infos i no_info) in
        rest_set x
        ∙ ap (λ (y : NodeInfo).
        let u : NodeInfos = record (rest_of t) {
          infos = slice_set (rest_of t).infos i (marked (number_then x) y);
        } in
        u)
        (sym rest_there)

  pub marks_stay : (v : ℕ) (ids : List ℕ) (t : NodeInfos) → AllOf (λ i. i < at) ids → at < length t.infos
      → AreMarked ids (rest_of t) (rest_of (with_dots v ids t))
  marks_stay v [] t low many = refl
  marks_stay v (i ∷ ids) t low many =
      let x : NodeInfo = info_with_dots v (get_or t.infos i no_info) in
      let next : NodeInfos = record t { infos = slice_set t.infos i x } in (
        number_then t i low.0 many x,
        subst (λ (u : NodeInfos). AreMarked ids u (rest_of (with_dots v ids next)))
            (mark_stays t i low.0 many v)
            (marks_stay v ids next low.1 (omega (arith, many, length-set t.infos i x))),
      )
