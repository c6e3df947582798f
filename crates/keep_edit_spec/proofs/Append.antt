-- The laws of append_table and append_element.
pub mod AppendLaw
pub mod AppendTable
pub mod AppendElement
pub mod HeaderConflict
pub mod HeaderMarks
pub mod AppendPlace
pub mod AppendAddsStatement
