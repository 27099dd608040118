-- The definitions of crate job_disk.
pub mod Disk
pub mod Laws
