-- From the bytes to the plan.
pub mod Sections
pub mod Plans
pub mod NeverSixteen
pub mod LargestFile
pub mod FirstBytes
pub mod Accepting
