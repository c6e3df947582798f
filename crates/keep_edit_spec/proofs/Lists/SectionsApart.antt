-- Two headers with their bodies, of tables or elements: where the second is once the first is gone.
--
-- Its header comes before the first's or after it (`order_of`), and not in the first's body, where no header is
-- (`seam_of`, `not_within`). If before, the lines after it are as before up to the end of its body, as that ends before
-- the next header (`by_earlier`). If after, all its lines are there (`by_later`). Where the headers' paths go once the
-- first is gone, is given by a function (HeadersGo); the second's path goes there too.
--
-- Theorems: `still_at`: where it is; `head_bytes`: a header's line has bytes; `seam_of`: a list that is cut twice;
-- `none_split`: lines none of which passes.
use Rattle.std.proofs.Common.{◌≡◌, ◌≢◌, ℕ, zero, suc, ◌+◌, ◌<◌, ◌≤◌, Bool, true, false, List, [], ◌∷◌, ◌++◌, length}
use Rattle.std.proofs.Common.{map, take, drop, refl, sym, ap, ap₂, subst, ◌∙◌, append_assoc, arith, Option, Some, None}
use Rattle.std.proofs.Common.{◌⊎◌, inl, inr}
use Rattle.std.proofs.lemmas.Bool.{and_parts}
use Rattle.std.proofs.lemmas.List.{length-map, map-append}
use Rattle.std.specs.List.{AllByRecursion}
use Rattle.keep_types.specs.declared.leaf.Profile.{Profile}
use Rattle.keep_syntax.specs.Grammar.{IsEnded}
use Rattle.keep_syntax.specs.Tree.{Line, Ended, Document, blank}
use Rattle.keep_path.specs.Path.{Part, same_path}
use Rattle.keep_meaning.specs.Marks.{Reading, start}
use Rattle.keep_meaning.specs.Meaning.{after_line, line_of, reading_after_lines}
use Rattle.keep_edit_spec.specs.Lines.{begins, body_length, is_header, last_line}
use Rattle.keep_edit_spec.proofs.Append.AppendLaw.{reading_append}
use Rattle.keep_edit_spec.proofs.Common.HeadersGo.{Goes, HeaderGoes, begins_goes, goes_right, last_goes}
use Rattle.keep_edit_spec.proofs.Common.LineEnds.{ended_ends}
use Rattle.keep_edit_spec.proofs.Common.Moves.{IsInjectiveOn}
use Rattle.keep_edit_spec.proofs.Common.Runs.{same_path-sound}
use Rattle.keep_edit_spec.proofs.Lists.BodyEnds.{header_few, header_none}
use Rattle.keep_edit_spec.proofs.Lists.HeaderEnds.{lengths_same}
use Rattle.keep_edit_spec.proofs.Lists.HeaderLines.{last_before}
use Rattle.keep_edit_spec.proofs.Lists.Places.{size, width, width_more}
use Rattle.keep_edit_spec.proofs.Lists.RemovedOwn.{last_or}
use Rattle.keep_edit_spec.proofs.Lists.RemovedPlaces.{lines_here}
use Rattle.keep_edit_spec.proofs.Lists.SectionAt.{IsSectionAt, section_here}
use Rattle.keep_edit_spec.proofs.Lists.SectionLines.{body_done, none_in_body}
use Rattle.keep_edit_spec.proofs.Remove.RemoveLinePlace.{rest_valid}
use Rattle.keep_edit_spec.proofs.Remove.RemoveLines.{drop_prefix_of, take_prefix}
use Rattle.keep_edit_spec.proofs.Remove.RemoveSection.{body_is}

-- ---- lists that are cut at two elements

data Order {T : Type 0} (a b : List T) (h k : T) (x y : List T) : Type 0 where
  earlier : (mid : List T) → a ≡ b ++ k ∷ mid → y ≡ mid ++ h ∷ x → Order a b h k x y
  same : a ≡ b → h ≡ k → Order a b h k x y
  later : (mid : List T) → b ≡ a ++ h ∷ mid → x ≡ mid ++ k ∷ y → Order a b h k x y

order_step : {T : Type 0} (c : T) (a b : List T) (h k : T) (x y : List T) → Order a b h k x y
    → Order (c ∷ a) (c ∷ b) h k x y
order_step c a b h k x y (earlier mid e f) = earlier mid (ap (λ l. c ∷ l) e) f
order_step c a b h k x y (same e f) = same (ap (λ l. c ∷ l) e) f
order_step c a b h k x y (later mid e f) = later mid (ap (λ l. c ∷ l) e) f

order_of : {T : Type 0} (a b : List T) (h k : T) (x y : List T) → a ++ h ∷ x ≡ b ++ k ∷ y → Order a b h k x y
order_of [] [] h k x y e = same refl cc
order_of [] (c ∷ b) h k x y e =
    let one : h ≡ c = cc in later b (ap (λ d. d ∷ b) (sym one)) cc
order_of (c ∷ a) [] h k x y e =
    let one : c ≡ k = cc in earlier a (ap (λ d. d ∷ a) one) (let f : a ++ h ∷ x ≡ y = cc in sym f)
order_of (c ∷ a) (d ∷ b) h k x y e =
    let one : c ≡ d = cc in
    let rest : a ++ h ∷ x ≡ b ++ k ∷ y = cc in
    subst (λ z. Order (c ∷ a) (z ∷ b) h k x y) one (order_step c a b h k x y (order_of a b h k x y rest))

pub data Seam {T : Type 0} (a b : List T) (c : List T) (k : T) (y : List T) : Type 0 where
  within : (z : List T) → a ≡ c ++ k ∷ z → Seam a b c k y
  beyond : (z : List T) → c ≡ a ++ z → b ≡ z ++ k ∷ y → Seam a b c k y

pub seam_of : {T : Type 0} (a b c : List T) (k : T) (y : List T) → a ++ b ≡ c ++ k ∷ y → Seam a b c k y
seam_of [] b c k y e = beyond c refl e
seam_of (x ∷ a) b [] k y e = let one : x ≡ k = cc in within a (ap (λ z. z ∷ a) one)
seam_of (x ∷ a) b (d ∷ c) k y e =
    let one : x ≡ d = cc in
    let rest : a ++ b ≡ c ++ k ∷ y = cc in
    by one (seam_of a b c k y rest)
  where
    by : x ≡ d → Seam a b c k y → Seam (x ∷ a) b (d ∷ c) k y
    by one (within z f) = within z (ap₂ (λ u l. u ∷ l) one f)
    by one (beyond z f g) = beyond z (ap₂ (λ u l. u ∷ l) (sym one) f) g

pub take_few : {T : Type 0} (n : ℕ) (a b c : List T) → n ≤ length a → take n (a ++ b) ≡ take n (a ++ c)
take_few zero [] [] [] h = refl
take_few zero [] [] (y ∷ c) h = refl
take_few zero [] (x ∷ b) [] h = refl
take_few zero [] (x ∷ b) (y ∷ c) h = refl
take_few (suc n) [] b c h = absurd (let k : suc n ≤ 0 = h in omega (arith, k))
take_few zero (x ∷ a) b c h = refl
take_few (suc n) (x ∷ a) b c h =
    let k : suc n ≤ suc (length a) = h in ap (λ l. x ∷ l) (take_few n a b c (omega (arith, k)))

pub take_whole : {T : Type 0} (a b : List T) → take (length a) (a ++ b) ≡ a
take_whole [] [] = refl
take_whole [] (x ∷ b) = refl
take_whole (x ∷ a) b = ap (λ l. x ∷ l) (take_whole a b)

-- ---- widths

pub width_join : (a b : List Ended) → width (a ++ b) ≡ width a + width b
width_join [] b = omega arith
width_join (e ∷ a) b = omega (arith, width_more e (a ++ b), width_more e a, width_join a b)

pub head_bytes : (profile : Profile) (es first : List Ended) (head : Ended) (rest : List Ended)
    → AllByRecursion (IsEnded profile) es → es ≡ first ++ head ∷ rest → 0 < size head
head_bytes profile es first head rest valid was =
    (ended_ends profile head
    (rest_valid profile first (head ∷ rest) (subst (AllByRecursion (IsEnded profile)) was valid)).0).0

-- ---- none of some lines passes

pub none_or : (b : Bool) (o : Option ℕ) → last_or b o ≡ None → (o ≡ None) × (b ≡ false)
none_or true None e = absurd cc
none_or false None e = (refl, refl)
none_or b (Some n) e = absurd cc

pub none_split : (test : Reading → Line → Bool) (r : Reading) (a b : List Line) → last_line test r (a ++ b) ≡ None
    → (last_line test r a ≡ None) × (last_line test (reading_after_lines r a) b ≡ None)
none_split test r [] b e = (refl, e)
none_split test r (l ∷ a) b e =
    let (rest, one) = none_or (test r l) (last_line test (after_line r l) (a ++ b)) e in
    let (x, y) = none_split test (after_line r l) a b rest in
    (ap₂ last_or one x, y)

none_join : (test : Reading → Line → Bool) (r : Reading) (a b : List Line) → last_line test r a ≡ None
    → last_line test (reading_after_lines r a) b ≡ None → last_line test r (a ++ b) ≡ None
none_join test r a b x y = last_before test r a b y ∙ x

passes_none : (test : Reading → Line → Bool) (r : Reading) (a : List Line) (l : Line) (b : List Line)
    → test (reading_after_lines r a) l ≡ true → last_line test r (a ++ l ∷ b) ≡ None → ⊥
passes_none test r a l b t e =
    let (x, y) = none_split test r a (l ∷ b) e in
    let fails : test (reading_after_lines r a) l ≡ false =
    (none_or (test (reading_after_lines r a) l) (last_line test (after_line (reading_after_lines r a) l) b) y).1 in
    absurd cc

-- ---- a header and its body

module _ (s : Document) (path : List Part) (at : IsSectionAt s path) where
  abbrev pub r : Reading
  r = reading_after_lines start (map line_of at.first)

  pub is_head : is_header at.head.line.content ≡ true
  is_head = (and_parts (is_header at.head.line.content) (same_path (after_line r at.head.line).body path) at.passes).0

  abbrev pub after : List Line
  after = map line_of (at.body ++ at.more) ++ s.last ∷ []

  abbrev pub more : List Line
  more = map line_of at.more ++ s.last ∷ []

  pub after_split : after ≡ map line_of at.body ++ more
  after_split =
      ap (λ (ls : List Line). ls ++ s.last ∷ []) (map-append line_of at.body at.more)
      ∙ append_assoc (map line_of at.body) (map line_of at.more) (s.last ∷ [])

  pub body_taken : take (body_length after) after ≡ map line_of at.body
  body_taken =
      ap₂ (λ (n : ℕ) (ls : List Line). take n ls) (at.size ∙ sym (length-map at.body line_of)) after_split
      ∙ take_prefix (map line_of at.body) more

  pub more_left : drop (body_length after) after ≡ more
  more_left =
      ap₂ (λ (n : ℕ) (ls : List Line). drop n ls) (at.size ∙ sym (length-map at.body line_of)) after_split
      ∙ drop_prefix_of (map line_of at.body) more

  -- no header is in the body, which leaves the reading, and none of it is left after it
  pub body_keeps : (x : Reading) → reading_after_lines x (map line_of at.body) ≡ x
  body_keeps x = ap (reading_after_lines x) (sym body_taken) ∙ (body_is x after).keeps

  pub body_none : (q : List Part) (x : Reading) → last_line (begins q) x (map line_of at.body) ≡ None
  body_none q x = ap (last_line (begins q) x) (sym body_taken) ∙ none_in_body q x after

  pub more_none : body_length more ≡ 0
  more_none = ap body_length (sym more_left) ∙ body_done after

  -- the document without them
  abbrev pub without : Document
  without = record { bom = s.bom; ended = at.first ++ at.more; last = s.last }

-- ---- the second once the first is gone

-- Its path is one of those that stay apart, and it is where that goes.
pub record IsStillAt (D : List Part → Type 0) (f : List Part → List Part) (s : Document) (path other : List Part)
    (at : IsSectionAt s path) (k : IsSectionAt s other) : Type 0 where
  pub apart : D other
  pub section : IsSectionAt (without s path at) (f other)
  pub same : width (section.head ∷ section.body) ≡ width (k.head ∷ k.body)
  pub place : ((width k.first ≡ width section.first) × (width k.first < width at.first))
      ⊎ ((width k.first ≡ width section.first + width (at.head ∷ at.body)) × (width at.first ≤ width section.first))

module _ (D : List Part → Type 0) (f : List Part → List Part) (inj : IsInjectiveOn D f) (profile : Profile)
    (s : Document) (path other : List Part) (differs : path ≢ other)
    (valid : AllByRecursion (IsEnded profile) s.ended) (empty : s.last.content ≡ blank)
    (at : IsSectionAt s path) (k : IsSectionAt s other)
    (before : Goes D f start start (map line_of at.first))
    (behind : Goes D f (after_line (r s path at) at.head.line) (r s path at) (more s path at)) where
  abbrev now : Document
  now = without s path at

  abbrev x : Reading
  x = r s path at

  abbrev u : Reading
  u = after_line x at.head.line

  abbrev following : List Line
  following = after s path at

  abbrev left : List Line
  left = more s path at

  -- what a header that begins the other's body says of its path
  apart_at : (v w : Reading) (l : Line) → HeaderGoes D f v w l → begins other v l ≡ true → D other
  apart_at v w l h passes =
      let (one, two) = and_parts (is_header l.content) (same_path (after_line v l).body other) passes in
      subst D (same_path-sound (after_line v l).body other two) (h one).0

  -- its header comes before that of the first
  module _ (mid : List Ended) (e : at.first ≡ k.first ++ k.head ∷ mid)
      (g : k.body ++ k.more ≡ mid ++ at.head ∷ (at.body ++ at.more)) where
    abbrev v : Reading
    v = reading_after_lines start (map line_of k.first)

    abbrev y : Reading
    y = after_line v k.head.line

    lines_are : map line_of (mid ++ at.more) ++ s.last ∷ [] ≡ map line_of mid ++ left
    lines_are =
        ap (λ (ls : List Line). ls ++ s.last ∷ []) (map-append line_of mid at.more)
        ∙ append_assoc (map line_of mid) (map line_of at.more) (s.last ∷ [])

    lines_were : map line_of (k.body ++ k.more) ++ s.last ∷ [] ≡ map line_of mid ++ at.head.line ∷ following
    lines_were =
        ap (λ (es : List Ended). map line_of es ++ s.last ∷ []) g
        ∙ lines_here mid at.head (at.body ++ at.more) s.last

    reading_is : reading_after_lines y (map line_of mid) ≡ x
    reading_is =
        sym (reading_append start (map line_of k.first) (k.head.line ∷ map line_of mid))
        ∙ ap (reading_after_lines start) (sym (map-append line_of k.first (k.head ∷ mid)) ∙ ap (map line_of) (sym e))

    from_head : Goes D f v v (k.head.line ∷ map line_of mid)
    from_head =
        goes_right D f start start (map line_of k.first) (k.head.line ∷ map line_of mid)
        (subst (λ (ls : List Line). Goes D f start start ls)
        (ap (map line_of) e ∙ map-append line_of k.first (k.head ∷ mid)) before)

    apart_first : D other
    apart_first = apart_at v v k.head.line from_head.0 k.passes

    none_left : last_line (begins (f other)) y (map line_of (mid ++ at.more) ++ s.last ∷ []) ≡ None
    none_left =
        let (none_mid, rest) =
        none_split (begins other) y (map line_of mid) (at.head.line ∷ following)
        (ap (last_line (begins other) y) (sym lines_were) ∙ k.none_later) in
        let at_head : last_line (begins other) x (at.head.line ∷ following) ≡ None =
        ap (λ (z : Reading). last_line (begins other) z (at.head.line ∷ following)) (sym reading_is) ∙ rest in
        let after_head : last_line (begins other) u following ≡ None =
        (none_or (begins other x at.head.line) (last_line (begins other) u following) at_head).0 in
        let in_body : last_line (begins other) u (map line_of at.body ++ left) ≡ None =
        ap (last_line (begins other) u) (sym (after_split s path at)) ∙ after_head in
        let past_body : last_line (begins other) u left ≡ None =
        ap (λ (z : Reading). last_line (begins other) z left) (sym (body_keeps s path at u))
        ∙ (none_split (begins other) u (map line_of at.body) left in_body).1 in
        ap (last_line (begins (f other)) y) lines_are
        ∙ none_join (begins (f other)) y (map line_of mid) left
        (last_goes D f inj y y (map line_of mid) from_head.1 other apart_first ∙ none_mid)
        (ap (λ (z : Reading). last_line (begins (f other)) z left) reading_is
        ∙ last_goes D f inj u x left behind other apart_first ∙ past_body)

    abbrev here : IsSectionAt now (f other)
    here =
        section_here now (f other) k.first k.head (mid ++ at.more) empty
        (ap (λ (es : List Ended). es ++ at.more) e ∙ append_assoc k.first (k.head ∷ mid) at.more)
        (begins_goes D f inj v v k.head.line from_head.0 other apart_first ∙ k.passes) none_left

    count : body_length (map line_of (mid ++ at.more) ++ s.last ∷ []) ≡ length k.body
    count =
        ap body_length lines_are
        ∙ lengths_same (map line_of mid) left (at.head.line ∷ following)
        (more_none s path at
        ∙ sym (header_none at.head.line.content (body_length following) (is_head s path at)))
        ∙ ap body_length (sym lines_were) ∙ k.size

    few : length k.body ≤ length mid
    few =
        omega (
          arith,
          header_few (map line_of mid) at.head.line following (is_head s path at),
          ap body_length (sym lines_were) ∙ k.size,
          length-map mid line_of,
        )

    body_is_same : take (body_length (map line_of (mid ++ at.more) ++ s.last ∷ [])) (mid ++ at.more) ≡ k.body
    body_is_same =
        ap (λ (n : ℕ). take n (mid ++ at.more)) count
        ∙ take_few (length k.body) mid at.more (at.head ∷ (at.body ++ at.more)) few
        ∙ ap (take (length k.body)) (sym g) ∙ take_whole k.body k.more

    by_earlier : IsStillAt D f s path other at k
    by_earlier = record {
      apart = apart_first;
      section = here;
      same = ap (λ (es : List Ended). width (k.head ∷ es)) body_is_same;
      place = inl (
        refl,
        omega (
          arith,
          ap width e,
          width_join k.first (k.head ∷ mid),
          width_more k.head mid,
          head_bytes profile s.ended k.first k.head (k.body ++ k.more) valid k.was,
        ),
      );
    }

  -- or after it
  module _ (mid : List Ended) (e : k.first ≡ at.first ++ at.head ∷ mid) where
    reading_was : reading_after_lines start (map line_of k.first) ≡ reading_after_lines u (map line_of mid)
    reading_was =
        ap (λ (es : List Ended). reading_after_lines start (map line_of es)) e
        ∙ ap (reading_after_lines start) (map-append line_of at.first (at.head ∷ mid))
        ∙ reading_append start (map line_of at.first) (at.head.line ∷ map line_of mid)

    not_within : (z : List Ended) → at.body ≡ mid ++ k.head ∷ z → ⊥
    not_within z g =
        passes_none (begins other) u (map line_of mid) k.head.line (map line_of z)
        (ap (λ (w : Reading). begins other w k.head.line) (sym reading_was) ∙ k.passes)
        (ap (last_line (begins other) u)
        (sym (map-append line_of mid (k.head ∷ z)) ∙ ap (map line_of) (sym g))
        ∙ body_none s path at other u)

    module _ (z : List Ended) (g : mid ≡ at.body ++ z) (h : at.more ≡ z ++ k.head ∷ (k.body ++ k.more)) where
      abbrev rest : List Line
      rest = map line_of (k.body ++ k.more) ++ s.last ∷ []

      -- the reading at the header, with the first and without it
      abbrev old : Reading
      old = reading_after_lines u (map line_of z)

      abbrev new : Reading
      new = reading_after_lines x (map line_of z)

      new_is : reading_after_lines start (map line_of (at.first ++ z)) ≡ new
      new_is =
          ap (reading_after_lines start) (map-append line_of at.first z)
          ∙ reading_append start (map line_of at.first) (map line_of z)

      old_is : reading_after_lines start (map line_of k.first) ≡ old
      old_is =
          reading_was
          ∙ ap (λ (es : List Ended). reading_after_lines u (map line_of es)) g
          ∙ ap (reading_after_lines u) (map-append line_of at.body z)
          ∙ reading_append u (map line_of at.body) (map line_of z)
          ∙ ap (λ (w : Reading). reading_after_lines w (map line_of z)) (body_keeps s path at u)

      more_is : left ≡ map line_of z ++ k.head.line ∷ rest
      more_is =
          ap (λ (es : List Ended). map line_of es ++ s.last ∷ []) h ∙ lines_here z k.head (k.body ++ k.more) s.last

      from_there : Goes D f old new (k.head.line ∷ rest)
      from_there =
          goes_right D f u x (map line_of z) (k.head.line ∷ rest)
          (subst (λ (ls : List Line). Goes D f u x ls) more_is behind)

      passes_old : begins other old k.head.line ≡ true
      passes_old = ap (λ (w : Reading). begins other w k.head.line) (sym old_is) ∙ k.passes

      apart_second : D other
      apart_second = apart_at old new k.head.line from_there.0 passes_old

      by_later : IsStillAt D f s path other at k
      by_later = record {
        apart = apart_second;
        section = record {
          first = at.first ++ z;
          head = k.head;
          body = k.body;
          more = k.more;
          was = ap (λ (es : List Ended). at.first ++ es) h
              ∙ sym (append_assoc at.first z (k.head ∷ (k.body ++ k.more)));
          passes = ap (λ (w : Reading). begins (f other) w k.head.line) new_is
              ∙ begins_goes D f inj old new k.head.line from_there.0 other apart_second ∙ passes_old;
          none_later = ap (λ (w : Reading). last_line (begins (f other)) (after_line w k.head.line) rest) new_is
              ∙ last_goes D f inj (after_line old k.head.line) (after_line new k.head.line) rest from_there.1 other
              apart_second
              ∙ ap (λ (w : Reading). last_line (begins other) (after_line w k.head.line) rest) (sym old_is)
              ∙ k.none_later;
          size = k.size;
        };
        same = refl;
        place = inr (
          omega (
            arith,
            ap width e,
            ap width g,
            width_join at.first (at.head ∷ mid),
            width_more at.head mid,
            width_join at.body z,
            width_join at.first z,
            width_more at.head at.body,
          ),
          omega (arith, width_join at.first z),
        );
      }

  from_later : (mid : List Ended) → k.first ≡ at.first ++ at.head ∷ mid
      → Seam at.body at.more mid k.head (k.body ++ k.more) → IsStillAt D f s path other at k
  from_later mid e (within z g) = absurd (not_within mid e z g)
  from_later mid e (beyond z g h) = by_later mid e z g h

  pub still_at : IsStillAt D f s path other at k
  still_at = by (order_of at.first k.first at.head k.head (at.body ++ at.more) (k.body ++ k.more)
      (sym at.was ∙ k.was))
    where
      by : Order at.first k.first at.head k.head (at.body ++ at.more) (k.body ++ k.more)
          → IsStillAt D f s path other at k
      by (earlier mid e g) = by_earlier mid e g
      by (later mid e g) =
          from_later mid e (seam_of at.body at.more mid k.head (k.body ++ k.more) g)
      by (same e g) =
          let mine : path ≡ (after_line x at.head.line).body =
          sym (same_path-sound (after_line x at.head.line).body path
          (and_parts (is_header at.head.line.content) (same_path (after_line x at.head.line).body path) at.passes).1) in
          let theirs : (after_line x at.head.line).body ≡ other =
          same_path-sound (after_line x at.head.line).body other
          (and_parts (is_header at.head.line.content) (same_path (after_line x at.head.line).body other)
          (subst (λ (l : Ended). begins other x l.line ≡ true) (sym g)
          (subst (λ (es : List Ended). begins other (reading_after_lines start (map line_of es)) k.head.line ≡ true)
          (sym e) k.passes))).1 in
          absurd (differs (mine ∙ theirs))
