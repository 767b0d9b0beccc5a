pub mod QueryParts
pub mod NameForm
pub mod Bounded
pub mod Rules
pub mod Value
pub mod Constraint
pub mod Answer
pub mod Text
