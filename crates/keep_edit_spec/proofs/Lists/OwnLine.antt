-- A value's own line: what it says, and what is said without it.
--
-- The line leaves the reading as it is (`keeps`). What it says is at its path or under it, or of tables on the way
-- there, and no other line says a thing under it (`apart`, `cut_without`). So at a path that is not under it the facts
-- are the same without it (`fact_without`), and what was nowhere said is nowhere said then (`unsaid_without`). An act
-- in a value at a path that does not begin with its own finds nothing in it (`line_misses`).
--
-- Theorems: `its`, `keeps`, `lines_were`: the line and the lines beside it; `said_was`, `apart`, `cut_now`,
-- `fact_without`, `unsaid_without`: what it says; `line_misses`; `none_of_rest`, `kinds_cut`: of what is left
-- once a run is taken out.
use Rattle.std.proofs.Common.{◌≡◌, ℕ, ◌<◌, Bool, false, List, [], ◌∷◌, ◌++◌, length, map, refl, sym, ap, subst, ◌∙◌}
use Rattle.std.proofs.Common.{Option, Some, None}
use Rattle.std.specs.List.{list_any}
use Rattle.std.proofs.lemmas.Bool.{or_from, or_parts}
use Rattle.std.proofs.lemmas.List.{length-map}
use Rattle.keep_types.specs.declared.leaf.Profile.{Profile}
use Rattle.keep_syntax.specs.Tree.{Content, keyval, Line, Ended, Document, comment_leaves, text_of}
use Rattle.keep_path.specs.Path.{Part, strip}
use Rattle.keep_meaning.specs.Marks.{Mention, MentionKind, Reading, below, start}
use Rattle.keep_meaning.specs.Meaning.{after_line, keyval_mentions, line_mentions, line_of, lines, lines_mentions}
use Rattle.keep_meaning.specs.Meaning.{mentions_in, reading_after_lines, step}
use Rattle.keep_meaning.specs.Nodes.{fact_at, kinds_at}
use Rattle.keep_edit_spec.specs.Changed.{Changed, within}
use Rattle.keep_edit_spec.specs.Laws.{IsEditable}
use Rattle.keep_edit_spec.specs.Lines.{in_content, in_line, last_line}
use Rattle.keep_edit_spec.specs.Values.{Act}
use Rattle.keep_edit_spec.proofs.Common.Cuts.{IsCut, cut_by}
use Rattle.keep_edit_spec.proofs.Common.InValue.{IsBeside, beside_keyval}
use Rattle.keep_edit_spec.proofs.Common.LineLaws.{lines_mentions-append}
use Rattle.keep_edit_spec.proofs.Common.Marks.{rules_of_document}
use Rattle.keep_edit_spec.proofs.Common.Runs.{Rules, kinds_at-append}
use Rattle.keep_edit_spec.proofs.Common.SetDocument.{mentions_of, reading_of}
use Rattle.keep_edit_spec.proofs.Lists.RemovedPlaces.{IsCutAt, cut_at, lines_here, mine, own_of}
use Rattle.keep_edit_spec.proofs.Remove.RemoveLines.{IsOwnLine, line_cut}

-- ---- of some that are left nothing passes that did not

none_left : {A : Type 0} (T : A → Bool) (y z : List A) → list_any T (y ++ z) ≡ false → list_any T z ≡ false
none_left T [] z e = e
none_left T (u ∷ y) z e = none_left T y z (or_parts (T u) (list_any T (y ++ z)) e).1

pub none_of_rest : {A : Type 0} (T : A → Bool) (x y z : List A) → list_any T (x ++ (y ++ z)) ≡ false
    → list_any T (x ++ z) ≡ false
none_of_rest T [] y z e = none_left T y z e
none_of_rest T (u ∷ x) y z e =
    let (one, others) = or_parts (T u) (list_any T (x ++ (y ++ z))) e in
    or_from (T u) (list_any T (x ++ z)) one (none_of_rest T x y z others)

-- and so of what is said once a run is taken out
unsaid_cut : (T : Mention → Bool) (path : List Part) (from to : List Mention) → IsCut path from to
    → list_any T from ≡ false → list_any T to ≡ false
unsaid_cut T path from to c e =
    ap (list_any T) c.is ∙ none_of_rest T c.before (c.ways ++ c.run) c.after (ap (list_any T) (sym c.was) ∙ e)

pub kinds_cut : (T : MentionKind → Bool) (path q : List Part) (from to : List Mention) → IsCut path from to
    → list_any T (kinds_at q from) ≡ false → list_any T (kinds_at q to) ≡ false
kinds_cut T path q from to c e =
    let gone : List Mention = c.ways ++ c.run in
    let was : kinds_at q from ≡ kinds_at q c.before ++ (kinds_at q gone ++ kinds_at q c.after) =
    ap (kinds_at q) c.was ∙ kinds_at-append q c.before (gone ++ c.after)
    ∙ ap (λ (ks : List MentionKind). kinds_at q c.before ++ ks) (kinds_at-append q gone c.after) in
    ap (list_any T) (ap (kinds_at q) c.is ∙ kinds_at-append q c.before c.after)
    ∙ none_of_rest T (kinds_at q c.before) (kinds_at q gone) (kinds_at q c.after) (ap (list_any T) (sym was) ∙ e)

-- ---- the line

module _ (profile : Profile) (limit : ℕ) (s : Document) (path : List Part) (n : ℕ)
    (fine : IsEditable profile limit s) (own : last_line (mine path) start (lines s) ≡ Some n)
    (closed : n < length s.ended) where
  abbrev pub c : IsCutAt n s.ended
  c = cut_at n s.ended closed

  abbrev pub before : List Line
  before = map line_of c.first

  abbrev pub after : List Line
  after = map line_of c.more ++ s.last ∷ []

  abbrev pub r : Reading
  r = reading_after_lines start before

  pub its : IsOwnLine r.body path c.here.line.content
  its = own_of s path n own c

  pub keeps : after_line r c.here.line ≡ r
  keeps = reading_of r c.here.line its.name its.held its.was

  pub lines_were : lines s ≡ before ++ c.here.line ∷ after
  lines_were =
      ap (λ (es : List Ended). map line_of es ++ s.last ∷ []) c.was ∙ lines_here c.first c.here c.more s.last

  pub before_length : length before ≡ n
  before_length = length-map c.first line_of ∙ sym c.number

  -- ---- what it says

  pub said_was : mentions_in s
      ≡ lines_mentions start before ++ (line_mentions r c.here.line ++ lines_mentions r after)
  said_was =
      ap (lines_mentions start) lines_were ∙ lines_mentions-append start before (c.here.line ∷ after)
      ∙ ap (λ (x : Reading).
      lines_mentions start before ++ (line_mentions r c.here.line ++ lines_mentions x after)) keeps

  abbrev pub without : List Mention
  without = lines_mentions start before ++ lines_mentions r after

  abbrev own_path : List Part
  own_path = r.body ++ step 0 (Some its.name)

  cut_without : IsCut path (mentions_in s) without
  cut_without =
      subst (λ (p : List Part). IsCut p (mentions_in s) without) its.place
      (subst (λ (ls : List Line). IsCut own_path (lines_mentions start ls) without) (sym lines_were)
      (line_cut before after c.here.line its.name its.held its.was
      (subst (λ (ls : List Line). Rules (lines_mentions start ls)) lines_were (rules_of_document s fine.obeys))))

  -- in a document that says the others
  pub cut_now : (now : Document) → mentions_in now ≡ without → IsCut path (mentions_in s) (mentions_in now)
  cut_now now said = subst (IsCut path (mentions_in s)) (sym said) cut_without

  pub apart : IsBeside path (lines_mentions start before) (line_mentions r c.here.line) (lines_mentions r after)
  apart =
      let mid : line_mentions r c.here.line ≡ map (below r.body) (keyval_mentions its.name its.held) =
      mentions_of r c.here.line its.name its.held its.was in
      let rules : Rules (lines_mentions start before
      ++ (map (below r.body) (keyval_mentions its.name its.held) ++ lines_mentions r after)) =
      subst Rules (said_was ∙ ap (λ (ms : List Mention).
      lines_mentions start before ++ (ms ++ lines_mentions r after)) mid) (rules_of_document s fine.obeys) in
      subst (λ (ms : List Mention). IsBeside path (lines_mentions start before) ms (lines_mentions r after)) (sym mid)
      (subst (λ (p : List Part). IsBeside p (lines_mentions start before)
      (map (below r.body) (keyval_mentions its.name its.held)) (lines_mentions r after)) its.place
      (beside_keyval before after its.name its.held rules))

  pub fact_without : (q : List Part) → strip path q ≡ None → fact_at q without ≡ fact_at q (mentions_in s)
  fact_without q e = cut_by path (mentions_in s) without cut_without q None e

  pub unsaid_without : (T : Mention → Bool) → list_any T (mentions_in s) ≡ false → list_any T without ≡ false
  unsaid_without T e = unsaid_cut T path (mentions_in s) without cut_without e

  -- ---- what is changed in it

  pub line_misses : (act : Act) (other : List Part) → strip path other ≡ None → in_line act other r c.here.line ≡ None
  line_misses act other apart =
      ap (λ (o : Option (Changed Content)).
      within (λ x. record c.here.line { content = x }) (text_of c.here.line.before)
      (text_of c.here.line.after ++ text_of (comment_leaves c.here.line.comment)) o)
      (ap (in_content act r.body other) its.was
      ∙ by (ap (λ (p : List Part). strip p other) its.place ∙ apart))
    where
      by : strip own_path other ≡ None → in_content act r.body other (keyval its.name its.held) ≡ None
      by e = rw (in_content, e) refl
