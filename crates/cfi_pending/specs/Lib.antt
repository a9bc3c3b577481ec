pub mod Starts
pub mod PendingLeads
pub mod Laws
pub mod StartLaw
pub mod Opening
pub mod Kinds
pub mod KindLaws
