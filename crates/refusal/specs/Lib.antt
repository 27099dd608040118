-- The numbers of refusals, which the contracts of `refusal` cite, and their laws.
pub mod Refusal
pub mod Laws
