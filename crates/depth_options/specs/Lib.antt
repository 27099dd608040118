-- The definitions that the contracts of `depth_options` cite, their laws, and lines with what they ask for.
pub mod DepthOptions
pub mod Laws
pub mod Lines
