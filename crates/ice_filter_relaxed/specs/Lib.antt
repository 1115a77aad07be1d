pub mod Relaxing
