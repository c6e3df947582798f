-- A syntax in which the same is stored is that of the same document and the same text.
--
-- Theorems: `same_syntax`: it is the syntax of the same document; `same_text`: its parts are those of the same text.
use Rattle.std.proofs.Common.{ℕ, ◌+◌, ◌≤◌, List, sym, ap, subst, ◌∙◌, IsCharBoundary}
use Rattle.keep_syntax.specs.declared.syntax.Syntax.{Syntax}
use Rattle.keep_syntax.specs.Tree.{Document, text}
use Rattle.keep_syntax_store.specs.Flat.{Flat}
use Rattle.keep_syntax.specs.Cut.{start_in, cut_by}
use Rattle.keep_syntax.specs.Contract.{IsSyntaxOf, IsTextOf}
use Rattle.keep_syntax.specs.Undoing.{IsSame}

pub same_syntax : {a b : Syntax} {d : Document} → IsSame a b → IsSyntaxOf b d → IsSyntaxOf a d
same_syntax {d = d} h is = record {
  tokens = ap (λ (f : Flat). cut_by f (text d)) h.stored ∙ is.tokens;
  statements = ap (λ (f : Flat). f.statements) h.stored ∙ is.statements;
  parts = ap (λ (f : Flat). f.keys) h.stored ∙ is.parts;
  values = ap (λ (f : Flat). f.values) h.stored ∙ is.values;
  stored = h.stored ∙ is.stored;
  lines = h.lines ∙ is.lines;
  len = h.len ∙ is.len;
}

pub same_text : {a b : Syntax} {bytes : List ℕ} → IsSame a b → IsTextOf b bytes → IsTextOf a bytes
same_text {bytes = bytes} h is = record {
  document = is.document;
  spelled = is.spelled;
  is = same_syntax h is.is;
  cuts = λ n. subst (λ (f : Flat). IsCharBoundary bytes (start_in bytes f.starts n)) (sym h.stored) (is.cuts n);
  forward =
      λ n. subst (λ (f : Flat). start_in bytes f.starts n ≤ start_in bytes f.starts (n + 1)) (sym h.stored)
      (is.forward n);
}
