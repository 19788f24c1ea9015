pub mod Answer
pub mod Grammar
pub mod Members
pub mod MembersLaw
pub mod inner
