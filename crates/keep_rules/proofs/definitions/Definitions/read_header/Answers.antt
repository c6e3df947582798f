-- A statement with no value is a header with its keys.
use Rattle.std.proofs.Common.{ap, sym, refl}
use Rattle.keep_syntax_store.specs.Flat.{flat}
use Rattle.keep_types.specs.declared.syntax.StatementKind.{StatementKind}
use Rattle.keep_rules.specs.Keys.{Key, key_of}
use Rattle.keep_rules.specs.ReadStatements.{head_of}
use Rattle.keep_rules.proofs.HeaderLemmas.{statement_keys, head_other, head_read, head_breaks}
use Rattle.keep_rules.proofs.definitions.Definitions.read_header.Goals as goal

pub invariant_of-keys : goal.invariant_of-keys
invariant_of-keys c =
    let own = c.requires.statement in
    statement_keys c.args.text.now (flat c.args.parts.now).keys (flat c.args.parts.now).values c.args.statement
    own.statement own.readable own.matches

pub returns-in-Element : goal.returns-in-Element
returns-in-Element c = λ body.
    let f = flat c.args.parts.now in
    let k : Key = key_of c.args.text.now f.keys c.args.statement.first_key c.args.statement.keys in
    let is = ap (λ (kind : StatementKind). head_of kind k) (sym c.in-Element.is) in
    record {
      read = head_read c.begin_element.result c.args.text.now f c.args.number c.args.statement k c.args.self.now.tree
          c.begin_element.new.self.tree _ is refl c.requires.head body c.begin_element.ensures.ok;
      define =
          head_breaks c.begin_element.result c.args.text.now f c.args.statement k c.args.self.now.tree _ is refl
          c.requires.head body c.begin_element.ensures.define;
    }

pub returns-in_default : goal.returns-in_default
returns-in_default c = λ body.
    let f = flat c.args.parts.now in
    let k : Key = key_of c.args.text.now f.keys c.args.statement.first_key c.args.statement.keys in
    let is = sym (head_other c.args.statement.kind k c.in_default.not-Element) in
    record {
      read = head_read c.define_table.result c.args.text.now f c.args.number c.args.statement k c.args.self.now.tree
          c.define_table.new.self.tree _ is refl c.requires.head body c.define_table.ensures.ok;
      define =
          head_breaks c.define_table.result c.args.text.now f c.args.statement k c.args.self.now.tree _ is refl
          c.requires.head body c.define_table.ensures.define;
    }
