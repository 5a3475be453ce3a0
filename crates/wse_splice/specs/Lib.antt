pub mod Splice
