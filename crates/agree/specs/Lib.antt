-- How far two decoders agree from here on, which the contracts of `agree` cite, and laws of it.
pub mod Agree
pub mod Laws
