-- The definitions that the contracts of `report` cite, and their laws.
pub mod Report
pub mod Forms
pub mod Laws
