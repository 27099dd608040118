-- The definition that the contracts of `job_files` cite, and its law.
pub mod Reads
