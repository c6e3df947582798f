use Rattle.keep_edit_spec.proofs.Append.AppendAddsStatement.{append_element_adds_statement, append_table_adds_statement}
use Rattle.keep_edit_spec.proofs.laws.append_adds_statement.Goals as goal

pub returns-clause-table : goal.returns-clause-table
returns-clause-table c = append_table_adds_statement

pub returns-clause-element : goal.returns-clause-element
returns-clause-element c = append_element_adds_statement
