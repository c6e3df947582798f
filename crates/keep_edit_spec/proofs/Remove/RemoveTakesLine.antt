-- A remove of a keyval's line takes it.
--
-- All other statements stay (LineTaken), and nothing is said at the path by any of them, since by the rules what is
-- beside a keyval's line is beside its path.
--
-- Theorem: `remove_takes_line`; and `takes` where something is in the value, for the document where nothing is.
use Rattle.std.proofs.Common.{◌≡◌, Bool, true, false, ◌||◌, List, [], ◌∷◌, ◌++◌, map, refl, sym, ap, ap₂, subst, ◌∙◌}
use Rattle.std.proofs.Common.{append-nil, Some, None}
use Rattle.std.specs.List.{cons_option, list_any}
use Rattle.keep_syntax.specs.Tree.{Content, Entries, Further, Name, Value, Line, Document, keyval}
use Rattle.keep_path.specs.Path.{Part, key, strip}
use Rattle.keep_path.proofs.Shared.{path_decides}
use Rattle.keep_meaning.specs.Counts.{statements_in}
use Rattle.keep_meaning.specs.Marks as marks
use Rattle.keep_meaning.specs.Marks.{Mention, Statement, start, value as kinds_value}
use Rattle.keep_meaning.specs.Meaning.{body_fact, further_value, key_value, keyed_mentions, lines, lines_mentions}
use Rattle.keep_meaning.specs.Meaning.{mentions_in, reading_after_lines, statement_of, valued_mentions}
use Rattle.keep_meaning.specs.Nodes.{is_at, is_node, is_root}
use Rattle.keep_meaning.specs.Rules.{ObeysRules}
use Rattle.keep_edit_spec.specs.Edits.{edited_document, remove}
use Rattle.keep_edit_spec.specs.KeyvalLines.{HasLineAt, IsValueLine, RemoveTakesLine, bare_value}
use Rattle.keep_edit_spec.proofs.Common.InValue.{beside_keyval}
use Rattle.keep_edit_spec.proofs.Common.LineStatements.{reading_statements, statements-append, statements_of}
use Rattle.keep_edit_spec.proofs.Common.Runs.{AllOf, IsDisjoint, Rules, all_join, strip-append}
use Rattle.keep_edit_spec.proofs.Common.SetDocument.{whole_mentions}
use Rattle.keep_edit_spec.proofs.Remove.LineTaken.{rules, said_left, statements_left}

-- nothing is said there
not_at : (p : List Part) (ms : List Mention) → AllOf (IsDisjoint p) ms → list_any (is_at p) ms ≡ false
not_at p [] h = refl
not_at p (m ∷ ms) h = ap₂ (λ (a b : Bool). a || b) (by (is_at p m) refl) (not_at p ms h.1)
  where
    by : (b : Bool) → is_at p m ≡ b → b ≡ false
    by false e = refl
    by true e =
        let same : m.path ≡ p = (path_decides m.path p).0 e in
        let clash : None ≡ Some [] = sym h.0 ∙ ap (strip p) (same ∙ sym (append-nil p)) ∙ strip-append p [] in
        absurd cc

-- what the line says, with nothing in its value
abbrev pub bare_statement : Name → Value → Statement
bare_statement name value =
    marks.keyval (record { path = key (key_value name.key.first) ∷ []; kind = kinds_value (body_fact value.body) } ∷ [])

-- a document in which the line is, with nothing in its value
pub bare_statements : (m : Document) (pre post : List Line) (l : Line) (name : Name) (value : Value)
    → lines m ≡ pre ++ l ∷ post
    → l.content ≡ keyval name (bare_value value) → name.key.more ≡ []
    → statements_in m ≡ statements_of pre ++ bare_statement name value ∷ statements_of post
bare_statements m pre post l name value is content one =
    ap statements_of is ∙ statements-append pre (l ∷ post)
    ∙ ap (λ (c : Content). statements_of pre ++ cons_option (statement_of c) (statements_of post)) content
    ∙ ap (λ (fs : List Further). statements_of pre ++ says fs ∷ statements_of post) one
  where
    says : List Further → Statement
    says fs =
        marks.keyval (keyed_mentions (key_value name.key.first ∷ map further_value fs)
        (valued_mentions (kinds_value (body_fact value.body)) []))

-- The remove takes the line from the document, and so does it from one with the same statements but for that of the
-- line, which says there what it says with nothing in its value.
module _ (s : Document) (path : List Part) (before : List Line) (value : Value)
    (obeys : ObeysRules (marks.marks (mentions_in s)))
    (h : IsValueLine s path before value)
    (bare : Document) (whole : statements_in bare ≡ statements_of before ++ bare_statement h.name value
    ∷ statements_of h.after) where
  abbrev now : Document
  now = edited_document s (remove path)

  others : statements_in now ≡ statements_of (before ++ h.after)
  others = statements_left s path before h.after h.line h.name value obeys h.here h.content h.place

  named : (reading_after_lines start before).body ++ key (key_value h.name.key.first) ∷ [] ≡ path
  named = ap (λ (fs : List Further).
      (reading_after_lines start before).body ++ key (key_value h.name.key.first) ∷ map key (map further_value fs))
      (sym h.one) ∙ h.place

  fresh : is_node path (mentions_in now) ≡ false
  fresh =
      let left : List Mention = lines_mentions start before in
      let right : List Mention = lines_mentions (reading_after_lines start before) h.after in
      let b = beside_keyval before h.after h.name value
      (subst Rules (whole_mentions before h.after h.line h.name value h.content)
      (rules s path before h.after h.line h.name value obeys h.here h.content h.place)) in
      let all : AllOf (IsDisjoint path) (left ++ right) =
      subst (λ (q : List Part). AllOf (IsDisjoint q) (left ++ right)) h.place
      (all_join (IsDisjoint _) left right b.before b.after) in
      ap₂ (λ (x y : Bool). x || y) (ap is_root (sym named) ∙ not_root (reading_after_lines start before).body)
      (ap (list_any (is_at path))
      (said_left s path before h.after h.line h.name value obeys h.here h.content h.place now others)
      ∙ not_at path (left ++ right) all)
    where
      not_root : (p : List Part) → is_root (p ++ key (key_value h.name.key.first) ∷ []) ≡ false
      not_root [] = refl
      not_root (x ∷ p) = refl

  pub takes : HasLineAt now bare path (body_fact value.body) before
  takes = record {
    line = record {
      before = statements_of before;
      after = statements_of h.after;
      text = key_value h.name.key.first;
      fact = body_fact value.body;
      old = others ∙ statements-append before h.after;
      new = whole;
    };
    after = refl;
    place =
        ap (λ (r : marks.Reading). r.body ++ key (key_value h.name.key.first) ∷ []) (reading_statements start before)
        ∙ named;
    gives = refl;
    fresh = fresh;
  }

pub remove_takes_line : RemoveTakesLine
remove_takes_line s path before value obeys h =
    let there : IsValueLine s path before value =
    record {
      line = h.line;
      after = h.after;
      name = h.name;
      here = h.here;
      content = h.content;
      place = h.place;
      one = h.one;
    } in
    let content : h.line.content ≡ keyval h.name (bare_value value) =
    h.content ∙ ap (λ (es : Entries). keyval h.name (record { body = value.body; nested = es })) h.empty in
    takes s path before value obeys there s (bare_statements s before h.after h.line h.name value h.here content h.one)
