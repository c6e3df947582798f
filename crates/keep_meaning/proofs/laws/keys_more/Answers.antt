use Rattle.keep_meaning.proofs.KeysLaws.{keys_add_nodes, keys_add_value_nodes, keys_are_found, keys_take_nodes}
use Rattle.keep_meaning.proofs.laws.keys_more.Goals as goal

pub returns-clause-added : goal.returns-clause-added
returns-clause-added c = keys_add_nodes

pub returns-clause-valued : goal.returns-clause-valued
returns-clause-valued c = keys_add_value_nodes

pub returns-clause-taken : goal.returns-clause-taken
returns-clause-taken c = keys_take_nodes

pub returns-clause-found : goal.returns-clause-found
returns-clause-found c = keys_are_found
