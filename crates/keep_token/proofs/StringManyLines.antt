-- Strings over many lines, of either kind: the pieces found spell the text, and the pieces that spell it are found, or
-- more of them where marks follow.
--
-- All is shown once for both kinds, for any pieces with `PieceLaws` and any mark. What is found has the text, and its
-- pieces are valid (`many_lines_found`, an induction over the bound of the search). In the other direction a body may
-- end in one or two marks, and more marks may follow the closing ones. So what is found again may be longer than what
-- was written; it is the same where no mark follows (`many_lines_again`). The hard part is the end of the body:
-- `ending` splits it by how many marks come last, and shows that before that fewer than three are in a row.
--
-- Theorems: `prefix_many`: what is found is a string over many lines; `again_many`: it is found again, or a longer one.
use Rattle.std.proofs.Common.{◌≡◌, ℕ, zero, suc, ◌+◌, ◌-◌, ◌<◌, ◌≤◌, min, true, false, not, ◌&&◌, ◌||◌, ◌==◌, nat_le}
use Rattle.std.proofs.Common.{List, [], ◌∷◌, ◌++◌, length, drop, Option, Some, None, refl, sym, ap, ◌∙◌, subst, inl}
use Rattle.std.proofs.Common.{inr, arith, ◌⊎◌, append_assoc, drop_at, length-append, eqb-true, eq-eqb, le-leb, leb-true}
use Rattle.std.proofs.lemmas.Bool.{and_parts, cases_Bool, or_parts, or_from, not-true, lt-leb}
use Rattle.std.proofs.lemmas.Bool.Decides.{nat_tests}
use Rattle.std.specs.List.{prefix_len}
use Rattle.keep_token.specs.Abnf.{is_ws, Newline}
use Rattle.keep_token.specs.Strings.{Piece, Plain, Letter, Number, Break, LineEnd, piece_text, text_of, Each, no_three}
use Rattle.keep_token.specs.Strings.{takes_all}
use Rattle.keep_token.specs.Pieces.{first, blank_len, some_of, closes, onward, pieces_by, pieces_of}
use Rattle.keep_token.proofs.StringSteps.{Stops, PieceLaws, stepped, spelled_more, first_of_found, piece_count}

-- ---- marks in a row

abbrev marks : ℕ → List ℕ → ℕ
marks mark text = prefix_len (λ c. c == mark) text

mark_step : (mark : ℕ) (text : List ℕ) → 0 < marks mark text
    → (cs : List ℕ) × (text ≡ mark ∷ cs) × (marks mark text ≡ suc (marks mark cs))
mark_step mark [] h = absurd (omega arith)
mark_step mark (c ∷ cs) h =
    elim (cases_Bool (c == mark)) [
      | inl e ↦ (cs, ap (λ (b : ℕ). b ∷ cs) (eqb-true c mark e), rw e (omega arith))
      | inr e ↦ absurd (let f = rw e at h in omega arith)
    ]

mark_more : (mark : ℕ) (text cs rest : List ℕ) → text ≡ mark ∷ cs → cs ≡ rest → text ≡ mark ∷ rest
mark_more mark text cs rest e f = e ∙ ap (λ t. mark ∷ t) f

-- so many marks and three more come first
marks_prefix : (mark k : ℕ) (text : List ℕ) → k + 3 ≤ marks mark text
    → (rest : List ℕ) × (text ≡ text_of (some_of k mark) ++ (mark ∷ mark ∷ mark ∷ rest))
marks_prefix mark zero text h =
    let a = mark_step mark text (omega arith) in
    let b = mark_step mark a.0 (omega (arith, a.2)) in
    let c = mark_step mark b.0 (omega (arith, a.2, b.2)) in
    (c.0, mark_more mark text a.0 (mark ∷ mark ∷ c.0) a.1 (mark_more mark a.0 b.0 (mark ∷ c.0) b.1 c.1))
marks_prefix mark (suc k) text h =
    let a = mark_step mark text (omega arith) in
    let b = marks_prefix mark k a.0 (omega (arith, a.2)) in
    (b.0, mark_more mark text a.0 (text_of (some_of k mark) ++ (mark ∷ mark ∷ mark ∷ b.0)) a.1 b.1)

closes_many_found : (mark : ℕ) (text : List ℕ) (ps : List Piece) → closes true mark text ≡ Some ps
    → (k : ℕ) × (rest : List ℕ) × (k ≤ 2) × (ps ≡ some_of k mark)
    × (text ≡ text_of (some_of k mark) ++ (mark ∷ mark ∷ mark ∷ rest))
closes_many_found mark text ps e =
    elim (cases_Bool (nat_le 3 (marks mark text))) [
      | inl m ↦
          let enough = leb-true 3 (marks mark text) m in
          let k = min (marks mark text) 5 - 3 in
          let f = marks_prefix mark k text (omega (arith, enough)) in
          let g = rw m at e in
          (k, f.0, omega arith, cc, f.1)
      | inr m ↦ absurd (let f = rw m at e in cc)
    ]

closes_few : (mark : ℕ) (text : List ℕ) → marks mark text < 3 → closes true mark text ≡ None
closes_few mark text few = rw (lt-leb 3 (marks mark text) few) refl

each_mark : (P : Piece → Type 0) (mark : ℕ) → P (Plain mark) → (k : ℕ) → Each P (some_of k mark)
each_mark P mark h zero = tt
each_mark P mark h (suc k) = (h, each_mark P mark h k)

no_three_mark : (mark k : ℕ) → k ≤ 2 → no_three mark (some_of k mark) ≡ true
no_three_mark mark zero h = refl
no_three_mark mark (suc zero) h = refl
no_three_mark mark (suc (suc zero)) h = refl
no_three_mark mark (suc (suc (suc k))) h = absurd (omega arith)

takes_all_mark : (mark k : ℕ) → takes_all (some_of k mark) ≡ true
takes_all_mark mark zero = refl
takes_all_mark mark (suc zero) = refl
takes_all_mark mark (suc (suc k)) = takes_all_mark mark (suc k)

no_three_more : (mark : ℕ) (p : Piece) (ps : List Piece) (tail : List ℕ)
    → closes true mark (text_of (p ∷ ps) ++ tail) ≡ None → no_three mark ps ≡ true → no_three mark (p ∷ ps) ≡ true
no_three_more mark (Plain a) (Plain b ∷ Plain c ∷ more) tail still h =
    elim (cases_Bool ((a == mark && b == mark) && c == mark)) [
      | inl e ↦
          let ab = and_parts (a == mark && b == mark) (c == mark) e in
          let ab' = and_parts (a == mark) (b == mark) ab.0 in
          let len = marks mark (text_of more ++ tail) in
          let three : nat_le 3 (1 + (1 + (1 + len))) ≡ true = grind (arith, nat_tests) in
          absurd (let f = rw (ab'.0, ab'.1, ab.1, three) at still in cc)
      | inr e ↦ rw (e, h) refl
    ]
no_three_more mark p ps tail still h = h

blank_len_starts : (c : ℕ) (cs : List ℕ) → blank_len (c ∷ cs) ≡ 0 → (is_ws c || c == 0x0A) ≡ false
blank_len_starts c [] e =
    elim (cases_Bool (is_ws c || c == 0x0A)) [ inl w ↦ absurd (let f = rw w at e in omega (arith, f)) | inr w ↦ w ]
blank_len_starts c (d ∷ cs) e =
    elim (cases_Bool (is_ws c || c == 0x0A)) [ inl w ↦ absurd (let f = rw w at e in omega (arith, f)) | inr w ↦ w ]

pub blank_len_none : (c : ℕ) (cs : List ℕ) → (is_ws c || c == 0x0A) ≡ false → (c == 0x0D) ≡ false
    → blank_len (c ∷ cs) ≡ 0
blank_len_none c [] white cr = rw white refl
blank_len_none c (d ∷ cs) white cr = rw (white, cr) refl

blank_len_newline : (newline more : List ℕ) → Newline newline → blank_len (newline ++ more) ≡ 0 → ⊥
blank_len_newline newline [] (inl e) z = let f = rw e at z in omega (arith, f)
blank_len_newline newline (c ∷ cs) (inl e) z = let f = rw e at z in omega (arith, f)
blank_len_newline newline more (inr e) z = let f = rw e at z in omega (arith, f)

takes_all_more : (P : Piece → Type 0) (piece : List ℕ → Option Piece) → PieceLaws P piece
    → (p : Piece) (ps : List Piece) (tail : List ℕ) → Each P ps → Stops p (text_of ps ++ tail) → takes_all ps ≡ true
    → takes_all (p ∷ ps) ≡ true
takes_all_more P piece laws p [] tail each stops h = refl
takes_all_more P piece laws (LineEnd a b c) (Plain byte ∷ more) tail each stops h =
    let white = or_parts (is_ws byte) (byte == 0x0A) (blank_len_starts byte (text_of more ++ tail) stops) in
    rw (white.0, h) refl
takes_all_more P piece laws (LineEnd a b c) (Break newline ∷ more) tail each stops h =
    absurd (blank_len_newline newline (text_of more ++ tail) (laws.newline newline each.0)
    (rw (append_assoc newline (text_of more) tail) at stops))
takes_all_more P piece laws p (q ∷ more) tail each stops h = h

-- the pieces found over many lines
pub record FoundMany (P : Piece → Type 0) (mark : ℕ) (text : List ℕ) (ps : List Piece) : Type 0 where
  pub rest : List ℕ
  pub spelled : text ≡ text_of ps ++ (mark ∷ mark ∷ mark ∷ rest)
  pub each : Each P ps
  pub no_end : no_three mark ps ≡ true
  pub whole : takes_all ps ≡ true

closed_many : (P : Piece → Type 0) (mark : ℕ) → P (Plain mark)
    → (text : List ℕ) (ps : List Piece) (k : ℕ) (rest : List ℕ) → k ≤ 2 → ps ≡ some_of k mark
    → text ≡ text_of (some_of k mark) ++ (mark ∷ mark ∷ mark ∷ rest) → FoundMany P mark text ps
closed_many P mark is_mark text ps k rest small same spelled =
    record {
      rest = rest;
      spelled = rw same spelled;
      each = rw same (each_mark P mark is_mark k);
      no_end = rw same (no_three_mark mark k small);
      whole = rw same (takes_all_mark mark k);
    }

pub many_lines_found : (P : Piece → Type 0) (piece : List ℕ → Option Piece) → PieceLaws P piece → (mark : ℕ)
    → P (Plain mark)
    → (n : ℕ) (text : List ℕ) (ps : List Piece) → pieces_by n piece true mark text ≡ Some ps → FoundMany P mark text ps
many_lines_found P piece laws mark is_mark zero text ps e = absurd cc
many_lines_found P piece laws mark is_mark (suc n) text ps e =
    elim (first_of_found (closes true mark text) (onward (pieces_by n piece true mark) text (piece text)) ps e) [
      | inl closed ↦
          let (k, rest, small, same, spelled) = closes_many_found mark text ps closed in
          closed_many P mark is_mark text ps k rest small same spelled
      | inr open_still ↦
          let s = stepped P piece laws (pieces_by n piece true mark) text ps open_still.1 in
          let b = many_lines_found P piece laws mark is_mark n s.more s.after s.found in
          let tail = mark ∷ mark ∷ mark ∷ b.rest in
          let spelled = spelled_more s.here s.after text s.more tail s.spelled b.spelled in
          let stops : Stops s.here (text_of s.after ++ tail) = subst (λ t. Stops s.here t) b.spelled s.stops in
          let still : closes true mark (text_of (s.here ∷ s.after) ++ tail) ≡ None =
          ap (closes true mark) (sym spelled) ∙ open_still.0 in
          let found : FoundMany P mark text (s.here ∷ s.after) = record {
            rest = b.rest;
            spelled = spelled;
            each = (s.allowed, b.each);
            no_end = no_three_more mark s.here s.after tail still b.no_end;
            whole = takes_all_more P piece laws s.here s.after tail b.each stops b.whole;
          } in
          subst (λ qs. FoundMany P mark text qs) (sym s.all) found
    ]

-- how the text of pieces begins: with nothing, the mark, or no mark
data Lead (mark : ℕ) (ps : List Piece) : Type 0 where
  ends : ps ≡ [] → Lead mark ps
  marked : (qs : List Piece) → ps ≡ Plain mark ∷ qs → Lead mark ps
  other : ((tail : List ℕ) → marks mark (text_of ps ++ tail) ≡ 0) → Lead mark ps

marks_none : (mark : ℕ) (text : List ℕ) → (first text == mark) ≡ false → marks mark text ≡ 0
marks_none mark [] e = refl
marks_none mark (c ∷ cs) e = rw e refl

marks_more : (mark : ℕ) (text : List ℕ) → marks mark (mark ∷ text) ≡ suc (marks mark text)
marks_more mark text = rw (eq-eqb mark mark refl) (omega arith)

-- each piece is the mark itself, or begins with another byte
abbrev pub MarkOrNot : (Piece → Type 0) → ℕ → Type 0
MarkOrNot P mark =
    (p : Piece) → P p → (p ≡ Plain mark) ⊎ ((more : List ℕ) → (first (piece_text p ++ more) == mark) ≡ false)

lead : (P : Piece → Type 0) (mark : ℕ) → MarkOrNot P mark → (ps : List Piece) → Each P ps → Lead mark ps
lead P mark head [] h = ends refl
lead P mark head (p ∷ ps) h =
    elim (head p h.0) [
      | inl e ↦ marked ps (ap (λ (q : Piece). q ∷ ps) e)
      | inr f ↦
          other (λ tail.
          marks_none mark (text_of (p ∷ ps) ++ tail)
          (rw (append_assoc (piece_text p) (text_of ps) tail) (f (text_of ps ++ tail))))
    ]

-- the marks before the closing are at most two, and all of the body; or the string does not end here
data Ending (mark : ℕ) (ps : List Piece) : Type 0 where
  body : (k : ℕ) → k ≤ 2 → ps ≡ some_of k mark → Ending mark ps
  continues : ((tail : List ℕ) → marks mark (text_of ps ++ tail) < 3) → Ending mark ps

ending_two : (P : Piece → Type 0) (mark : ℕ) → MarkOrNot P mark → (ps : List Piece) → Each P ps
    → no_three mark (Plain mark ∷ Plain mark ∷ ps) ≡ true → Ending mark (Plain mark ∷ Plain mark ∷ ps)
ending_two P mark head ps h three =
    let same = eq-eqb mark mark refl in
    elim (lead P mark head ps h) [
      | ends e ↦ body 2 (omega arith) (ap (λ (qs : List Piece). Plain mark ∷ Plain mark ∷ qs) e)
      | marked qs e ↦ absurd (let f = rw (e, same) at three in cc)
      | other f ↦
          continues (λ tail.
          omega (arith, marks_more mark (mark ∷ text_of ps ++ tail), marks_more mark (text_of ps ++ tail), f tail))
    ]

ending_one : (P : Piece → Type 0) (mark : ℕ) → MarkOrNot P mark → (ps : List Piece) → Each P ps
    → no_three mark (Plain mark ∷ ps) ≡ true → Ending mark (Plain mark ∷ ps)
ending_one P mark head ps h three =
    elim (lead P mark head ps h) [
      | ends e ↦ body 1 (omega arith) (ap (λ (qs : List Piece). Plain mark ∷ qs) e)
      | marked qs e ↦
          let each = rw e at h in
          subst (λ (rs : List Piece). Ending mark (Plain mark ∷ rs)) (sym e)
          (ending_two P mark head qs each.1 (rw e at three))
      | other f ↦ continues (λ tail. omega (arith, marks_more mark (text_of ps ++ tail), f tail))
    ]

ending : (P : Piece → Type 0) (mark : ℕ) → MarkOrNot P mark → (ps : List Piece) → Each P ps → no_three mark ps ≡ true
    → Ending mark ps
ending P mark head ps h three =
    elim (lead P mark head ps h) [
      | ends e ↦ body 0 (omega arith) e
      | marked qs e ↦
          let each = rw e at h in
          subst (λ (rs : List Piece). Ending mark rs) (sym e) (ending_one P mark head qs each.1 (rw e at three))
      | other f ↦ continues (λ tail. omega (arith, f tail))
    ]

marks_of_some : (mark k : ℕ) (text : List ℕ) → marks mark (text_of (some_of k mark) ++ text) ≡ k + marks mark text
marks_of_some mark zero text = omega arith
marks_of_some mark (suc k) text =
    omega (arith, marks_more mark (text_of (some_of k mark) ++ text), marks_of_some mark k text)

length-some : (mark k : ℕ) → length (text_of (some_of k mark)) ≡ k
length-some mark zero = refl
length-some mark (suc k) = omega (arith, length-some mark k)

-- what is found before the closing marks, of which more may be there than three
pub record Again (piece : List ℕ → Option Piece) (n mark : ℕ) (ps : List Piece) (rest : List ℕ) : Type 0 where
  pub all : List Piece
  pub found : pieces_by n piece true mark (text_of ps ++ (mark ∷ mark ∷ mark ∷ rest)) ≡ Some all
  pub longer : length (text_of ps) ≤ length (text_of all)
  pub same : (first rest == mark) ≡ false → all ≡ ps

three_marks : (mark : ℕ) (rest : List ℕ) → marks mark (mark ∷ mark ∷ mark ∷ rest) ≡ 3 + marks mark rest
three_marks mark rest =
    omega (arith, marks_more mark (mark ∷ mark ∷ rest), marks_more mark (mark ∷ rest), marks_more mark rest)

again_closed : (piece : List ℕ → Option Piece) (n mark : ℕ) (ps : List Piece) (rest : List ℕ) (k : ℕ) → k ≤ 2
    → ps ≡ some_of k mark → Again piece (suc n) mark ps rest
again_closed piece n mark ps rest k small e =
    let tail = mark ∷ mark ∷ mark ∷ rest in
    let text = text_of (some_of k mark) ++ tail in
    let count : marks mark text ≡ k + (3 + marks mark rest) =
    marks_of_some mark k tail ∙ ap (λ m. k + m) (three_marks mark rest) in
    let enough : nat_le 3 (marks mark text) ≡ true = le-leb 3 (marks mark text) (omega (arith, count)) in
    let closed : closes true mark text ≡ Some (some_of (min (marks mark text) 5 - 3) mark) = rw enough refl in
    record {
      all = some_of (min (marks mark text) 5 - 3) mark;
      found = rw (e, closed) refl;
      longer = rw e (omega (arith, count, length-some mark k, length-some mark (min (marks mark text) 5 - 3)));
      same = λ stop. ap (λ m. some_of m mark) (omega (arith, count, marks_none mark rest stop)) ∙ sym e;
    }

stops_prefix : (P : Piece → Type 0) (piece : List ℕ → Option Piece) → PieceLaws P piece
    → (p : Piece) (ps : List Piece) (c : ℕ) (rest : List ℕ) → Each P ps → takes_all (p ∷ ps) ≡ true
    → ((is_ws c || c == 0x0A) ≡ false) → ((c == 0x0D) ≡ false) → Stops p (text_of ps ++ (c ∷ rest))
stops_prefix P piece laws (LineEnd x y z) [] c rest h all white cr = blank_len_none c rest white cr
stops_prefix P piece laws (LineEnd x y z) (Plain b ∷ ps) c rest h all white cr =
    let parts = and_parts (not (is_ws b)) (takes_all (Plain b ∷ ps)) all in
    let line = laws.plain b h.0 in
    blank_len_none b (text_of ps ++ (c ∷ rest)) (or_from (is_ws b) (b == 0x0A) (not-true (is_ws b) parts.0) line.0)
    line.1
stops_prefix P piece laws (LineEnd x y z) (Letter b ∷ ps) c rest h all white cr =
    blank_len_none 0x5C (b ∷ text_of ps ++ (c ∷ rest)) refl refl
stops_prefix P piece laws (LineEnd x y z) (Number b ds ∷ ps) c rest h all white cr =
    blank_len_none 0x5C (b ∷ (ds ++ text_of ps) ++ (c ∷ rest)) refl refl
stops_prefix P piece laws (LineEnd x y z) (Break b ∷ ps) c rest h all white cr = absurd cc
stops_prefix P piece laws (LineEnd x y z) (LineEnd a b d ∷ ps) c rest h all white cr =
    blank_len_none 0x5C (((a ++ (b ++ d)) ++ text_of ps) ++ (c ∷ rest)) refl refl
stops_prefix P piece laws (Plain b) ps c rest h all white cr = tt
stops_prefix P piece laws (Letter b) ps c rest h all white cr = tt
stops_prefix P piece laws (Number b ds) ps c rest h all white cr = tt
stops_prefix P piece laws (Break b) ps c rest h all white cr = tt

pub takes_all_rest : (p : Piece) (ps : List Piece) → takes_all (p ∷ ps) ≡ true → takes_all ps ≡ true
takes_all_rest p [] h = refl
takes_all_rest (LineEnd a b c) (Plain byte ∷ more) h =
    (and_parts (not (is_ws byte)) (takes_all (Plain byte ∷ more)) h).1
takes_all_rest (LineEnd a b c) (Break newline ∷ more) h = absurd cc
takes_all_rest p (q ∷ more) h = h

no_three_rest : (mark : ℕ) (p : Piece) (ps : List Piece) → no_three mark (p ∷ ps) ≡ true → no_three mark ps ≡ true
no_three_rest mark (Plain a) (Plain b ∷ Plain c ∷ more) h =
    (and_parts (not ((a == mark && b == mark) && c == mark)) (no_three mark (Plain b ∷ Plain c ∷ more)) h).1
no_three_rest mark p ps h = h

-- a string over many lines is found again, or a longer one, where more marks follow
pub many_lines_again : (P : Piece → Type 0) (piece : List ℕ → Option Piece) → PieceLaws P piece → (mark : ℕ)
    → P (Plain mark) → ((is_ws mark || mark == 0x0A) ≡ false) → ((mark == 0x0D) ≡ false)
    → MarkOrNot P mark → (n : ℕ) (ps : List Piece) (rest : List ℕ) → Each P ps → no_three mark ps ≡ true
    → takes_all ps ≡ true → length ps < n → Again piece n mark ps rest
many_lines_again P piece laws mark is_mark white cr head zero ps rest h three all few = absurd (omega arith)
many_lines_again P piece laws mark is_mark white cr head (suc n) [] rest h three all few =
    again_closed piece n mark [] rest 0 (omega arith) refl
many_lines_again P piece laws mark is_mark white cr head (suc n) (p ∷ ps) rest h three all few =
    elim (ending P mark head (p ∷ ps) h three) [
      | body k small e ↦ again_closed piece n mark (p ∷ ps) rest k small e
      | continues f ↦
          let tail = mark ∷ mark ∷ mark ∷ rest in
          let more = text_of ps ++ tail in
          let ih =
          many_lines_again P piece laws mark is_mark white cr head n ps rest h.1 (no_three_rest mark p ps three)
          (takes_all_rest p ps all) (omega arith) in
          let still : closes true mark (text_of (p ∷ ps) ++ tail) ≡ None =
          closes_few mark (text_of (p ∷ ps) ++ tail) (f tail) in
          let split = append_assoc (piece_text p) (text_of ps) tail in
          let still' : closes true mark (piece_text p ++ more) ≡ None = ap (closes true mark) (sym split) ∙ still in
          let stops = stops_prefix P piece laws p ps mark (mark ∷ mark ∷ rest) h.1 all white cr in
          record {
            all = p ∷ ih.all;
            found = ap (pieces_by (suc n) piece true mark) split
                ∙ (rw (
                  still',
                  laws.again p more h.0 stops,
                  drop_at (piece_text p) more (length (piece_text p)) refl,
                  ih.found,
                ) refl);
            longer =
                omega (
                  arith,
                  ih.longer,
                  length-append (piece_text p) (text_of ps),
                  length-append (piece_text p) (text_of ih.all),
                );
            same = λ stop. ap (λ (qs : List Piece). p ∷ qs) (ih.same stop);
          }
    ]

-- ---- with the opening and the closing

abbrev pub many_lines : ℕ → List Piece → List ℕ
many_lines mark ps = mark ∷ mark ∷ mark ∷ text_of ps ++ (mark ∷ mark ∷ mark ∷ [])

-- the text is a string over many lines and more
pub record PrefixMany (P : Piece → Type 0) (mark : ℕ) (text : List ℕ) (ps : List Piece) : Type 0 where
  pub rest : List ℕ
  pub spelled : text ≡ many_lines mark ps ++ rest
  pub each : Each P ps
  pub no_end : no_three mark ps ≡ true
  pub whole : takes_all ps ≡ true

pub prefix_many : (P : Piece → Type 0) (piece : List ℕ → Option Piece) → PieceLaws P piece → (mark : ℕ) → P (Plain mark)
    → (text after : List ℕ) (ps : List Piece) → text ≡ mark ∷ mark ∷ mark ∷ after
    → pieces_of piece true mark (drop 3 text) ≡ Some ps → PrefixMany P mark text ps
prefix_many P piece laws mark is_mark text after ps opening e =
    let found : pieces_of piece true mark after ≡ Some ps =
    ap (λ t. pieces_of piece true mark (drop 3 t)) (sym opening) ∙ e in
    let f = many_lines_found P piece laws mark is_mark (suc (length after)) after ps found in
    let spelled : text ≡ many_lines mark ps ++ f.rest =
    opening ∙ ap (λ t. mark ∷ mark ∷ mark ∷ t)
    (f.spelled ∙ sym (append_assoc (text_of ps) (mark ∷ mark ∷ mark ∷ []) f.rest)) in
    record { rest = f.rest; spelled = spelled; each = f.each; no_end = f.no_end; whole = f.whole }

-- the pieces found where a string over many lines is, which may be longer
pub record AgainMany (piece : List ℕ → Option Piece) (mark : ℕ) (ps : List Piece) (rest : List ℕ) : Type 0 where
  pub all : List Piece
  pub found : pieces_of piece true mark (drop 3 (many_lines mark ps ++ rest)) ≡ Some all
  pub longer : length (many_lines mark ps) ≤ length (many_lines mark all)
  pub same : (first rest == mark) ≡ false → all ≡ ps

pub again_many : (P : Piece → Type 0) (piece : List ℕ → Option Piece) → PieceLaws P piece → (mark : ℕ) → P (Plain mark)
    → ((is_ws mark || mark == 0x0A) ≡ false) → ((mark == 0x0D) ≡ false)
    → MarkOrNot P mark → (ps : List Piece) (rest : List ℕ) → Each P ps → no_three mark ps ≡ true → takes_all ps ≡ true
    → AgainMany piece mark ps rest
again_many P piece laws mark is_mark white cr head ps rest h three all =
    let closing = mark ∷ mark ∷ mark ∷ [] in
    let text = text_of ps ++ (mark ∷ mark ∷ mark ∷ rest) in
    let few = piece_count P piece laws ps h in
    let long = length-append (text_of ps) (mark ∷ mark ∷ mark ∷ rest) in
    let f = many_lines_again P piece laws mark is_mark white cr head (suc (length text)) ps rest h three all
    (omega (arith, few, long)) in
    record {
      all = f.all;
      found = ap (pieces_of piece true mark) (append_assoc (text_of ps) closing rest) ∙ f.found;
      longer = omega (arith, f.longer, length-append (text_of ps) closing, length-append (text_of f.all) closing);
      same = f.same;
    }
