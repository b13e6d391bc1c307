pub mod Lint
