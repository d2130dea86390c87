pub mod Conclusion
