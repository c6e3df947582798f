-- A line that says something by its bytes does so by its tree: it is not blank.
--
-- The text up to its end has two ends: the line by its bytes, behind a line feed, and the text of the last line of the
-- tree up to there, with its newline. The only line feed of each is its last byte, and before the second is a line
-- feed or nothing but a byte order mark. So they are the same bytes (`same_line`). But the text of a blank line is
-- white space, and then a comment or a newline (`blank_nothing`). There is such a line of the tree, as the byte order
-- mark has no line feed (`some_line`).
--
-- Theorem: `said_before`.
use Rattle.std.proofs.Common.{◌≡◌, ◌≢◌, ℕ, suc, ◌+◌, ◌<◌, ◌≤◌, Bool, true, false, cond, ◌==◌, List, [], ◌∷◌, ◌++◌}
use Rattle.std.proofs.Common.{length, take, drop, refl, sym, ap, ap₂, subst, ◌∙◌, append_assoc, length-append, arith}
use Rattle.std.proofs.Common.{Option, Some, None, ◌⊎◌, inl, inr}
use Rattle.std.specs.List.{AllByRecursion, list_all, prefix_len}
use Rattle.std.proofs.lemmas.Bool.{and_parts}
use Rattle.std.proofs.lemmas.List.{append-nil, drop-append-le, length-drop, take-append-drop, take-append-le, take_all}
use Rattle.keep_types.specs.declared.leaf.Profile.{Profile}
use Rattle.keep_types.specs.declared.leaf.Profile.TheVariants.{Strict}
use Rattle.keep_types.specs.declared.leaf.Leaf.TheVariants as leaf
use Rattle.keep_token.specs.Abnf.{is_comment, is_ws}
use Rattle.keep_token.specs.Leaves.{IsLeaf}
use Rattle.keep_token.specs.Pieces.{first}
use Rattle.keep_syntax.specs.Tree.{Written, Gap, Content, blank, Line, Ended, Document, bom_leaves, comment_leaves}
use Rattle.keep_syntax.specs.Tree.{content_leaves, ended_leaves, line_leaves, text, text_of}
use Rattle.keep_syntax.specs.Grammar.{IsAfter, IsComment, IsDocument, IsEnded, IsSpace}
use Rattle.keep_edit_spec.specs.Lines.{ended_text, line_text}
use Rattle.keep_edit_spec.specs.SaidLines.{SaysBefore, begins_nothing, is_in_line}
use Rattle.keep_edit_spec.specs.TextEnds.{ends_in_newline}
use Rattle.keep_edit_spec.proofs.Append.AppendPlace.{all_end, text_is}
use Rattle.keep_edit_spec.proofs.Common.LineEnds.{ends_after, quiet_byte}
use Rattle.keep_edit_spec.proofs.Common.Texts.{text_of-append}
use Rattle.keep_edit_spec.proofs.Touched.FitLaws.{all_back, all_prefix, ended_append}

-- ---- two ends of a text

-- of a text that is `u ++ a` and `v ++ b`: its first part u is v, and more
record GoesOn (u v a b : List ℕ) : Type 0 where
  rest : List ℕ
  longer : u ≡ v ++ rest
  shorter : b ≡ rest ++ a

goes_on : (u v a b : List ℕ) → u ++ a ≡ v ++ b → GoesOn u v a b ⊎ GoesOn v u b a
goes_on u [] a b e = inl (record { rest = u; longer = refl; shorter = sym e })
goes_on [] (y ∷ v) a b e = inr (record { rest = y ∷ v; longer = refl; shorter = e })
goes_on (x ∷ u) (y ∷ v) a b e =
    let same : x ≡ y = cc in
    let later : u ++ a ≡ v ++ b = cc in
    elim (goes_on u v a b later) [
      | inl g ↦
          inl (record {
            rest = g.rest;
            longer = ap₂ (λ (z : ℕ) (t : List ℕ). z ∷ t) same g.longer;
            shorter = g.shorter;
          })
      | inr g ↦
          inr (record {
            rest = g.rest;
            longer = ap₂ (λ (z : ℕ) (t : List ℕ). z ∷ t) (sym same) g.longer;
            shorter = g.shorter;
          })
    ]

-- ---- where the first line feed is

feed_within : (m r : List ℕ) → ends_in_newline m ≡ true → prefix_len is_in_line (m ++ r) < length m
feed_within [] r h = absurd cc
feed_within (c ∷ []) r h = rw h (omega arith)
feed_within (c ∷ d ∷ m) r h =
    by (is_in_line c) (prefix_len is_in_line (d ∷ (m ++ r))) (feed_within (d ∷ m) r h)
  where
    by : (b : Bool) (n : ℕ) → n < length (d ∷ m) → cond b (1 + n) 0 < length (c ∷ d ∷ m)
    by true n few = omega (arith, few)
    by false n few = omega arith

-- its last byte is its first line feed
abbrev IsOneLine : List ℕ → Type 0
IsOneLine t = suc (prefix_len is_in_line t) ≡ length t

one_line_only : (m r t : List ℕ) → t ≡ m ++ r → ends_in_newline m ≡ true → IsOneLine t → IsOneLine r → ⊥
one_line_only m r t is feed one more =
    omega (
      arith,
      one,
      more,
      ap (λ (x : List ℕ). prefix_len is_in_line x) is,
      ap (λ (x : List ℕ). length x) is,
      feed_within m r feed,
      length-append m r,
    )

-- a text with no line feed, or one that ends in it
abbrev IsStart : List ℕ → Type 0
IsStart t = (prefix_len is_in_line t ≡ length t) ⊎ (ends_in_newline t ≡ true)

same_line : (u v a b : List ℕ) → u ++ a ≡ v ++ b → IsStart u → ends_in_newline v ≡ true → IsOneLine a → IsOneLine b
    → b ≡ a
same_line u v a b e start feed one other = elim (goes_on u v a b e) [
  | inl g ↦ ahead g.rest g.longer g.shorter start
  | inr g ↦ behind g.rest g.longer g.shorter
]
  where
    ahead : (m : List ℕ) → u ≡ v ++ m → b ≡ m ++ a → IsStart u → b ≡ a
    ahead [] longer shorter begun = shorter
    ahead (c ∷ m) longer shorter (inl none) =
        absurd (omega (
          arith,
          none,
          ap (λ (x : List ℕ). prefix_len is_in_line x) longer,
          ap (λ (x : List ℕ). length x) longer,
          feed_within v (c ∷ m) feed,
          length-append v (c ∷ m),
        ))
    ahead (c ∷ m) longer shorter (inr ends) =
        absurd (one_line_only (c ∷ m) a b shorter
        (sym (ends_after v (c ∷ m) (omega arith)) ∙ ap ends_in_newline (sym longer) ∙ ends) other one)

    behind : (m : List ℕ) → v ≡ u ++ m → a ≡ m ++ b → b ≡ a
    behind [] longer shorter = sym shorter
    behind (c ∷ m) longer shorter =
        absurd (one_line_only (c ∷ m) b a shorter
        (sym (ends_after u (c ∷ m) (omega arith)) ∙ ap ends_in_newline (sym longer) ∙ feed) one other)

-- ---- the text of a blank line

record IsNothing (t : List ℕ) : Type 0 where
  begins : begins_nothing (first (drop (prefix_len is_ws t) t)) ≡ true
  ends : IsOneLine t

-- bytes of a class without the line feed
run_ends : (p : ℕ → Bool) (run t : List ℕ) → p 0x0A ≡ false → list_all p run ≡ true → IsOneLine t
    → IsOneLine (run ++ t)
run_ends p [] t never all h = h
run_ends p (c ∷ run) t never all h =
    let parts = and_parts (p c) (list_all p run) all in
    let here : (c == 0x0A) ≡ false = quiet_byte p c never parts.0 in
    let later : IsOneLine (run ++ t) = run_ends p run t never parts.1 h in
    rw here (omega (arith, later))

white_begins : (run t : List ℕ) → list_all is_ws run ≡ true
    → first (drop (prefix_len is_ws (run ++ t)) (run ++ t)) ≡ first (drop (prefix_len is_ws t) t)
white_begins [] t all = refl
white_begins (c ∷ run) t all =
    let parts = and_parts (is_ws c) (list_all is_ws run) all in
    rw parts.0
    (let one : 1 + prefix_len is_ws (run ++ t) ≡ suc (prefix_len is_ws (run ++ t)) = omega arith in
    ap (λ (k : ℕ). first (drop k (c ∷ (run ++ t)))) one ∙ white_begins run t parts.1)

newline_nothing : (t : List ℕ) → IsLeaf Strict leaf.Newline t → IsNothing t
newline_nothing t (inl e) = subst IsNothing (sym e) (record { begins = refl; ends = refl })
newline_nothing t (inr e) = subst IsNothing (sym e) (record { begins = refl; ends = refl })

comment_nothing : (c : Option Written) (t : List ℕ) → IsComment c → IsNothing t
    → IsNothing (text_of (comment_leaves c) ++ t)
comment_nothing None t h k = k
comment_nothing (Some w) t h k =
    let (a, b, spelled, hash, all) = h.1 in
    let whole : 0x23 ∷ b ≡ text_of (w ∷ []) =
    sym (append-nil w.text ∙ spelled ∙ ap (λ (x : List ℕ). x ++ b) hash) in
    subst (λ (x : List ℕ). IsNothing (x ++ t)) whole (record {
      begins = refl;
      ends = run_ends is_comment (0x23 ∷ b) t refl (rw all refl) k.ends;
    })

space_nothing : (g : Gap) (t : List ℕ) → IsSpace g → IsNothing t → IsNothing (text_of g ++ t)
space_nothing [] t h k = k
space_nothing (w ∷ []) t h k =
    subst (λ (x : List ℕ). IsNothing (x ++ t)) (sym (append-nil w.text)) (record {
      begins = ap begins_nothing (white_begins w.text t h.1.1) ∙ k.begins;
      ends = run_ends is_ws w.text t refl h.1.1 k.ends;
    })
space_nothing (w ∷ v ∷ g) t h k = absurd h

blank_nothing : (profile : Profile) (e : Ended) → IsEnded profile e → e.line.content ≡ blank
    → IsNothing (text_of (ended_leaves e))
blank_nothing profile e h is =
    let l : Line = e.line in
    let none : l.after ≡ [] = subst (λ (c : Content). IsAfter c l.after) is h.line.after in
    let leaves : line_leaves l ≡ l.before ++ comment_leaves l.comment =
    ap₂ (λ (c : Content) (g : Gap). l.before ++ (content_leaves c ++ (g ++ comment_leaves l.comment))) is none in
    let whole : text_of (ended_leaves e)
    ≡ text_of l.before ++ (text_of (comment_leaves l.comment) ++ e.newline.text) =
    text_of-append (line_leaves l) (e.newline ∷ [])
    ∙ ap₂ (λ (x y : List ℕ). x ++ y)
    (ap text_of leaves ∙ text_of-append l.before (comment_leaves l.comment)) (append-nil e.newline.text)
    ∙ append_assoc (text_of l.before) (text_of (comment_leaves l.comment)) e.newline.text in
    subst IsNothing (sym whole)
    (space_nothing l.before (text_of (comment_leaves l.comment) ++ e.newline.text) h.line.before
    (comment_nothing l.comment e.newline.text h.line.comment (newline_nothing e.newline.text h.newline)))

-- ---- the text up to a line

up_to_here : (bytes t rest x : List ℕ) (from : ℕ) → bytes ≡ t ++ rest → from + length x ≡ length t
    → take (length x) (drop from bytes) ≡ x → t ≡ take from t ++ x
up_to_here bytes t rest x from whole ends is =
    let few : from ≤ length t = omega (arith, ends) in
    let left : length (drop from t) ≡ length x = omega (arith, length-drop from t, ends) in
    let same : drop from t ≡ x =
    sym (take_all (length x) (drop from t) (omega (arith, left)))
    ∙ sym (take-append-le (length x) (drop from t) rest (omega (arith, left)))
    ∙ ap (take (length x)) (sym (drop-append-le from t rest few) ∙ ap (drop from) (sym whole))
    ∙ is in
    sym (take-append-drop from t) ∙ ap (λ (y : List ℕ). take from t ++ y) same

no_feed : (bom : Bool) → prefix_len is_in_line (text_of (bom_leaves bom)) ≡ length (text_of (bom_leaves bom))
no_feed true = refl
no_feed false = refl

-- before a line are others, or there is only the byte order mark
lines_start : (profile : Profile) (bom : Bool) (es : List Ended) → AllByRecursion (IsEnded profile) es
    → IsStart (text_of (bom_leaves bom) ++ ended_text es)
lines_start profile bom [] h =
    inl (subst (λ (t : List ℕ). prefix_len is_in_line t ≡ length t)
    (sym (append-nil (text_of (bom_leaves bom)))) (no_feed bom))
lines_start profile bom (e ∷ es) h =
    let all = all_end profile e es h in
    inr (ends_after (text_of (bom_leaves bom)) (ended_text (e ∷ es)) all.0 ∙ all.1)

-- ---- lines of which the last says something

pub record EndsSaid (es : List Ended) : Type 0 where
  pub pre : List Ended
  pub here : Ended
  pub is : es ≡ pre ++ here ∷ []
  pub said : here.line.content ≢ blank

ends_said : (e : Ended) (es : List Ended)
    → ((pre : List Ended) (x : Ended) → e ∷ es ≡ pre ++ x ∷ [] → x.line.content ≢ blank) → EndsSaid (e ∷ es)
ends_said e [] says = record { pre = []; here = e; is = refl; said = says [] e refl }
ends_said e (f ∷ es) says =
    let more = ends_said f es (λ pre x is. says (e ∷ pre) x (ap (λ (l : List Ended). e ∷ l) is)) in
    record {
      pre = e ∷ more.pre;
      here = more.here;
      is = ap (λ (l : List Ended). e ∷ l) more.is;
      said = more.said;
    }

module _ (profile : Profile) (s : Document) (valid : IsDocument profile s) (es more : List Ended)
    (was : s.ended ≡ es ++ more) where
  abbrev bom : List ℕ
  bom = text_of (bom_leaves s.bom)

  abbrev up_to : List ℕ
  up_to = bom ++ ended_text es

  all : AllByRecursion (IsEnded profile) es
  all = all_prefix (IsEnded profile) es more (subst (AllByRecursion (IsEnded profile)) was valid.ended)

  module _ (says : SaysBefore (text s) (length bom + length (ended_text es))) where
    abbrev before : List ℕ
    before = take says.from up_to ++ 0x0A ∷ []

    fed : ends_in_newline before ≡ true
    fed = ends_after (take says.from up_to) (0x0A ∷ []) (omega arith)

    up_to_is : up_to ≡ before ++ says.line
    up_to_is =
        let rest : List ℕ = ended_text more ++ line_text s.last in
        let whole : text s ≡ up_to ++ rest =
        text_is s
        ∙ ap (λ (t : List ℕ). bom ++ t)
        (ap (λ (t : List ℕ). t ++ line_text s.last) (ap ended_text was ∙ ended_append es more)
        ∙ append_assoc (ended_text es) (ended_text more) (line_text s.last))
        ∙ sym (append_assoc bom (ended_text es) rest) in
        up_to_here (text s) up_to rest (0x0A ∷ says.line) says.from whole
        (says.ends ∙ sym (length-append bom (ended_text es))) says.is
        ∙ sym (append_assoc (take says.from up_to) (0x0A ∷ []) says.line)

    some_line : es ≡ [] → ⊥
    some_line none =
        let same : bom ≡ before ++ says.line =
        sym (append-nil bom) ∙ ap (λ (l : List Ended). bom ++ ended_text l) (sym none) ∙ up_to_is in
        omega (
          arith,
          no_feed s.bom,
          ap (λ (t : List ℕ). prefix_len is_in_line t) same,
          ap (λ (t : List ℕ). length t) same,
          feed_within before says.line fed,
          length-append before says.line,
        )

    not_blank : (pre : List Ended) (x : Ended) → es ≡ pre ++ x ∷ [] → x.line.content ≢ blank
    not_blank pre x is empty =
        let ended : AllByRecursion (IsEnded profile) (pre ++ x ∷ []) =
        subst (AllByRecursion (IsEnded profile)) is all in
        let its : List ℕ = text_of (ended_leaves x) in
        let nothing : IsNothing its =
        blank_nothing profile x (all_back (IsEnded profile) pre (x ∷ []) ended).0 empty in
        let written : ended_text es ≡ ended_text pre ++ its =
        ap ended_text is ∙ ended_append pre (x ∷ [])
        ∙ ap (λ (ws : List Written). ended_text pre ++ text_of ws) (append-nil (ended_leaves x)) in
        let whole : (bom ++ ended_text pre) ++ its ≡ before ++ says.line =
        append_assoc bom (ended_text pre) its ∙ ap (λ (t : List ℕ). bom ++ t) (sym written) ∙ up_to_is in
        let same : says.line ≡ its =
        same_line (bom ++ ended_text pre) before its says.line whole
        (lines_start profile s.bom pre (all_prefix (IsEnded profile) pre (x ∷ []) ended)) fed nothing.ends
        says.said.ends in
        let no : true ≡ false =
        sym nothing.begins
        ∙ ap (λ (t : List ℕ). begins_nothing (first (drop (prefix_len is_ws t) t))) (sym same)
        ∙ says.said.begins in
        absurd cc

    pub said_before : EndsSaid es
    said_before = by es refl
      where
        by : (left : List Ended) → es ≡ left → EndsSaid es
        by [] are = absurd (some_line are)
        by (e ∷ left) are =
            subst EndsSaid (sym are) (ends_said e left (λ pre x is. not_blank pre x (are ∙ is)))
