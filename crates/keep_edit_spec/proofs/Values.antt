-- Where the value of a node is in a document, and what is known of it.
pub mod ValuePlace
pub mod ValueFacts
pub mod ValueDepths
pub mod LineValueText
pub mod LineValue
pub mod LineCounts
pub mod BareValue
pub mod LineKeys
